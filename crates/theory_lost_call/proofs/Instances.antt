-- A lost map and a lost unmap that matter: the finite maps with and without the call compute.
use Prim.Native.Nat.{ℕ}
use mathlib.Core.Path.{◌≡◌, refl, sym, subst, ◌∙◌}
use mathlib.Core.List.{List, [], ◌∷◌, ◌++◌}
use mathlib.Core.Option.{Option, none, some, some-ne-none}
use Rattle.theory_placement.proofs.Decision.{arrangement?}
use Rattle.theory_calls.specs.OnMap.{PageFields, Map}
use Rattle.theory_calls.specs.Request.{Request}
use Rattle.theory_histories.specs.Calls.{plain, Slices, State, Call, lengths_of}
use Rattle.theory_histories.proofs.Computes.{histories_compute}
use Rattle.theory_histories.proofs.Instances.{sizes, TestedUnder, map_behind, history_of}
use Rattle.theory_lost_call.specs.Lost.{MapOrUnmap, a_map, an_unmap}
use Rattle.theory_lost_call.specs.Rows.{page_number, map_to, unmap_it}
use Rattle.theory_lost_call.specs.Instances.{Lost, OnlyInFirst, LostInstances}

-- a page that a map lacks
missing : {o : Option PageFields} → o ≡ none → ((f : PageFields) × (o ≡ some f)) → ⊥
missing none-there there = some-ne-none there.0 (sym there.1 ∙ none-there)

module _ (s : State) (long : lengths_of s ≡ sizes) (before : List Call) (lost : Call) (behind : List Call) (under : TestedUnder (before ++ lost ∷ behind)) where
  instance_of : (request : Request (List ℕ)) → lost.asked ≡ plain request → MapOrUnmap request → (Differ : Map → Map → Type 0)
      → Differ (map_behind sizes (before ++ lost ∷ behind)) (map_behind sizes (before ++ behind)) → Lost before lost behind Differ s
  instance_of request asks may Differ differ = record {
    instance = record {
      history = history_of s long (before ++ lost ∷ behind) under;
      before = before;
      lost = lost;
      behind = behind;
      whole = refl;
      request = request;
      asks = asks;
      may_be_lost = may;
    };
    its_start = refl;
    its_before = refl;
    its_lost = refl;
    its_behind = refl;
    differ = subst (λ (lengths : Slices ℕ). Differ (map_behind lengths (before ++ lost ∷ behind)) (map_behind lengths (before ++ behind))) (sym long) differ;
  }

pub lost_instances : LostInstances
unfolding histories_compute arrangement?
lost_instances = record {
  lost_map = λ s long.
      instance_of s long (map_to 1 1 ∷ []) (map_to 1 2) (map_to 1 3 ∷ []) refl _ refl (a_map _) (OnlyInFirst (page_number 2)) ((_, refl), missing refl);
  lost_unmap = λ s long.
      instance_of s long (map_to 1 1 ∷ map_to 1 2 ∷ []) (unmap_it 1) (map_to 1 3 ∷ []) refl _ refl (an_unmap _) (λ m n. OnlyInFirst (page_number 1) n m)
      ((_, refl), missing refl);
}
