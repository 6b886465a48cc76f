-- Which skills a nurse may work with, looked up one after another.
use Rattle.std.proofs.Common.{◌≡◌, ◌∙◌, ◌+◌, ◌<◌, ◌&&◌, ◌==◌, ◌⊎◌, inl, inr, ℕ, Bool, true, false, ap, arith, refl, sym, List, length, not, replicate, slice_index_or, slice_set}
use Rattle.std.specs.List.{list_any}
use Rattle.std.proofs.lemmas.Bool.{and_right, cases_eq}
use Rattle.std.proofs.lemmas.List.{get_or-replicate, get_or-set_other, get_or-set_same}
use Rattle.roster_instance.specs.declared.choice.Skill.{Skill}

-- one skill more is looked up
pub able_more : (skills : List Skill) (able : List Bool) (m : ℕ) (here : Bool) → m < length able → ((k : ℕ) → k < m → slice_index_or able k false ≡ list_any (λ own. own.0 == k) skills) → here ≡ list_any (λ own. own.0 == m) skills
    → (k : ℕ) → k < m + 1 → slice_index_or (slice_set able m here) k false ≡ list_any (λ own. own.0 == k) skills
able_more skills able m here inside before is k h = go (cases_eq k m)
  where
    go : (k ≡ m) ⊎ (k ≡ m → ⊥) → slice_index_or (slice_set able m here) k false ≡ list_any (λ own. own.0 == k) skills
    go (inl e) = ap (λ j. slice_index_or (slice_set able m here) j false) e ∙ get_or-set_same able m here false inside ∙ is ∙ ap (λ j. list_any (λ own. own.0 == j) skills) (sym e)
    go (inr e) = get_or-set_other able m k here false e ∙ before k (omega arith)

-- a nurse who is absent may work with no skill, and one who isn't with the skills that the nurse has
pub none_able : (k : ℕ) (own away : Bool) → k < 8 → away ≡ true → slice_index_or (replicate 8 false) k false ≡ (own && not away)
none_able k own away few e = get_or-replicate 8 k false false few ∙ sym (and_right own (not away) (ap not e))

pub and_here : (own away : Bool) → away ≡ false → own ≡ (own && not away)
and_here true away e = sym (ap not e)
and_here false away e = refl
