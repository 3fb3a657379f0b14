-- `register_words::block_covers` meets its contract: the V bit is picked by the privilege, and the address test is that of `in_block`.
use Rattle.std.proofs.Common.{◌≡◌, ℕ, ◌+◌, ◌-◌, ◌*◌, ◌/◌, ◌%◌, ◌^◌, false, not, eqb, ap, ◌∙◌, one-mul, zero-mul, div-one, arith, pow_pos, ne_eqb}
use lib.Bits.{bit_and, and_high}
use Rattle.words.proofs.Without.{two, digit_lt}
use Rattle.register_words.specs.Block.{covers, valid_for}
use Rattle.register_words.proofs.block_covers.Goals as goal
use Rattle.register_words.proofs.block_covers.Goals.{then-user, else-user}

-- a bit that a mask of one bit leaves
bit_set : (k u : ℕ) → not (eqb (bit_and u (2 ^ (1 + k) - 2 ^ k)) 0) ≡ eqb (u / 2 ^ k % 2) 1
bit_set k u =
    let some : eqb (1 * 2 ^ k) 0 ≡ false = ne_eqb (1 * 2 ^ k) 0 (λ e. omega (arith, one-mul (2 ^ k), pow_pos k)) in
    ap (λ (n : ℕ). not (eqb n 0)) (and_high u 1 k)
    ∙ two (λ (d : ℕ). not (eqb (d * 2 ^ k) 0) ≡ eqb d 1) (rw (zero-mul (2 ^ k))) (rw some) (u / 2 ^ k % 2) (digit_lt (u / 2 ^ k))

pub returns : goal.returns
unfolding covers valid_for
returns c =
    let u = c.args.upper in
    elim c.if-user.branch [
      | then-user w ↦ rw (w.valid-is, w.if-user.true, c.in_block.ensures, bit_set 0 u, div-one u)
      | else-user w ↦ rw (w.valid-is, w.if-user.false, c.in_block.ensures, bit_set 1 u)
    ]
