-- What each outcome answers, case by case, and that of an entry found only RPN, WIMG and PP play a part.
use Rattle.std.proofs.Common.{◌≡◌, ℕ, ◌+◌, Bool, ◌&&◌, sym, refl, ap, ◌∙◌, ap₂}
use Rattle.words.specs.Bits.{bits, placed}
use Rattle.entry.specs.Entry.{rpn_of, wimg_of, pp_of, physical_address}
use Rattle.protection.specs.Access.{fetching}
use Rattle.protection.specs.Protection.{page_allows, guarded}
use Rattle.protection.specs.Fault.{no_match, no_fetch, protection, fault_of}
use Rattle.translation.specs.Steps.{page_outcome, done_answer, fault_answer, refused_answer, answer_of}
use Rattle.translation.specs.declared.Outcome.{Outcome}
use Rattle.translation.specs.declared.Outcome.TheVariants.{Real, Block, BlockProtection, NoExecute, NoMatch, Guarded, Protection, Done, Refused}
use Rattle.translation.specs.declared.Searched.TheVariants.{At}
use Rattle.translation.proofs.Steps.{after_at, page_guarded, page_protected, page_done, page_by, done_passes}

module _ (kind address : ℕ) where
  pub answer_real : answer_of kind address Real ≡ done_answer address 3 address
  unfolding answer_of
  answer_real = refl

  pub answer_block : (i physical attributes : ℕ) → answer_of kind address (Block i physical attributes) ≡ done_answer physical attributes address
  unfolding answer_of
  answer_block i physical attributes = refl

  pub answer_block_protection : (i : ℕ) → answer_of kind address (BlockProtection i) ≡ fault_answer (fault_of protection kind) address
  unfolding answer_of
  answer_block_protection i = refl

  pub answer_no_execute : answer_of kind address NoExecute ≡ fault_answer (fault_of no_fetch kind) address
  unfolding answer_of
  answer_no_execute = refl

  pub answer_no_match : answer_of kind address NoMatch ≡ fault_answer (fault_of no_match kind) address
  unfolding answer_of
  answer_no_match = refl

  pub answer_guarded : answer_of kind address Guarded ≡ fault_answer (fault_of no_fetch kind) address
  unfolding answer_of
  answer_guarded = refl

  pub answer_protection : (second : ℕ) → answer_of kind address (Protection second) ≡ fault_answer (fault_of protection kind) address
  unfolding answer_of
  answer_protection second = refl

  pub answer_done : (second : ℕ) → answer_of kind address (Done second) ≡ done_answer (physical_address second address) (wimg_of second) address
  unfolding answer_of
  answer_done second = refl

  pub answer_refused_law : (number : ℕ) → answer_of kind address (Refused number) ≡ refused_answer number
  unfolding answer_of
  answer_refused_law number = refl

  -- the effective address is kept unless the access is refused
  pub answer_effective : (outcome : Outcome) → ((number : ℕ) → outcome ≡ Refused number → ⊥) → (answer_of kind address outcome).effective ≡ address
  unfolding answer_of
  answer_effective Real h = refl
  answer_effective (Block i physical attributes) h = refl
  answer_effective (BlockProtection i) h = refl
  answer_effective NoExecute h = refl
  answer_effective NoMatch h = refl
  answer_effective Guarded h = refl
  answer_effective (Protection second) h = refl
  answer_effective (Done second) h = refl
  answer_effective (Refused number) h = absurd (h number refl)

-- ---- two second words with the same RPN, WIMG and PP

module _ (u w : ℕ) (rpn : rpn_of u ≡ rpn_of w) (wimg : wimg_of u ≡ wimg_of w) where
  pub answer_done_same : (kind address : ℕ) → answer_of kind address (Done u) ≡ answer_of kind address (Done w)
  unfolding physical_address
  answer_done_same kind address =
      answer_done kind address u
      ∙ ap₂ (λ (p a : ℕ). done_answer (placed 19 p + bits 20 31 address) a address) rpn wimg
      ∙ sym (answer_done kind address w)

  module _ (pp : pp_of u ≡ pp_of w) (kind : ℕ) (key : Bool) where
    guard_same : fetching kind && guarded (wimg_of w) ≡ fetching kind && guarded (wimg_of u)
    guard_same = ap (λ (a : ℕ). fetching kind && guarded a) (sym wimg)

    allow_same : page_allows key (pp_of w) kind ≡ page_allows key (pp_of u) kind
    allow_same = ap (λ (p : ℕ). page_allows key p kind) (sym pp)

    pub answer_page_same : (address : ℕ) → answer_of kind address (page_outcome kind key u) ≡ answer_of kind address (page_outcome kind key w)
    answer_page_same address =
        page_by kind key u (λ (outcome : Outcome). answer_of kind address outcome ≡ answer_of kind address (page_outcome kind key w))
        (λ g. rw (page_guarded kind key w (guard_same ∙ g)))
        (λ g p. rw (page_protected kind key w (guard_same ∙ g) (allow_same ∙ p)) (answer_protection kind address u ∙ sym (answer_protection kind address w)))
        (λ g p. rw (page_done kind key w (guard_same ∙ g) (allow_same ∙ p)) (answer_done_same kind address))

    pub page_done_same : page_outcome kind key u ≡ Done u → page_outcome kind key w ≡ Done w
    page_done_same e =
        let past = done_passes kind key (At u) u (after_at kind key u ∙ e) in
        page_done kind key w (guard_same ∙ past.passes) (allow_same ∙ past.allowed)
