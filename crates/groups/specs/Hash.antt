-- The hash of a page and its two groups (rules 4), for any number n of hash bits that name a group.
use Rattle.std.specs.Prelude.{ℕ, ◌+◌, ◌-◌, ◌*◌, ◌%◌, ◌^◌, ◌≡◌, Bool, true, false, cond}
use Rattle.std.specs.Int.Bits.{bit_xor}
use Rattle.words.specs.Bits.{placed}
use Rattle.words.specs.Words.{swapped}
use Rattle.entry.specs.Entry.{first_word, api_of}
use Rattle.register_words.specs.Sdr1.{origin_of, sdr1_shape, table_length}
use Rattle.groups.specs.declared.Page.{Page}
use Rattle.groups.specs.declared.Groups.{Groups}
use Rattle.groups.specs.declared.Located.{Located}

-- the hash: the low 19 bits of the VSID, exclusive-or the page index
unfoldable pub hash_of : ℕ → ℕ → ℕ
hash_of vsid index = bit_xor (vsid % 2 ^ 19) index

-- the primary group number: the low n bits of the hash
unfoldable pub primary_group : ℕ → ℕ → ℕ
primary_group n hash = hash % 2 ^ n

-- the secondary group number: the complement in n bits
unfoldable pub secondary_group : ℕ → ℕ → ℕ
secondary_group n hash = 2 ^ n - 1 - hash % 2 ^ n

-- both group numbers of a hash
unfoldable pub groups_of : ℕ → ℕ → Groups
groups_of n hash = record { primary = primary_group n hash; secondary = secondary_group n hash }

-- the number of a page's primary group (false) or of its secondary group (true)
unfoldable pub group_number : ℕ → Bool → Page → ℕ
group_number n secondary page = let hash = hash_of page.vsid page.index in cond secondary (secondary_group n hash) (primary_group n hash)

-- a table of the length that SDR1 tells, where SDR1 has its shape; and of some such SDR1
pub record TableOf (sdr1 lent : ℕ) : Type 0 where
  pub shape : sdr1_shape sdr1 ≡ true
  pub right : lent ≡ table_length sdr1

abbrev pub SomeTable : ℕ → Type 0
SomeTable lent = (sdr1 : ℕ) × TableOf sdr1 lent

-- where a page's entries are in a table for a mask of k ones: its two groups, and the first word of its entries in the
-- primary, its bytes reversed
abbrev pub located : ℕ → Page → Located
located k page = record {
  primary = group_number (10 + k) false page;
  secondary = group_number (10 + k) true page;
  wanted = swapped (first_word 1 page.vsid 0 (api_of page.index));
}

-- the address of group g: the origin bits followed by 16 zeros, and 64 × g bytes from there
unfoldable pub group_address : ℕ → ℕ → ℕ
group_address sdr1 g = placed 15 (origin_of sdr1) + 64 * g
