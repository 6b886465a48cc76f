-- One more roster is shown.
use Rattle.std.proofs.Common.{◌≡◌, ℕ, All, Bool, false, true, List, [], ◌∷◌, ◌++◌, Option, refl, subst, sym}
use Rattle.std.proofs.lemmas.List.Elements.{All-append, All-cons, All-nil}
use Rattle.roster_text.specs.Io.{Watched}
use Rattle.roster_instance.specs.Meaning.{Meaning}
use Rattle.roster_instance.specs.Rosters.{Rows}
use Rattle.roster_polish.specs.Shown.{IsReported, IsShownIf, SawAll, SawOnlyReported}

saw_more : {S : Type 0} (saw : S → Meaning → Rows → S → Type 0) (c : Meaning) (rs : List Rows) (saver mid : S) (r : Rows) (after : S) → SawAll saw c rs saver mid → saw mid c r after → SawAll saw c (rs ++ r ∷ []) saver after
saw_more saw c [] saver mid r after all one = (after, subst (λ s. saw s c r after) all one, refl)
saw_more saw c (x ∷ xs) saver mid r after all one = (all.0, all.1, saw_more saw c xs all.0 mid r after all.2 one)

module _ {W S : Type 0} (contents : W → Option (List ℕ)) (saw : S → Meaning → Rows → S → Type 0) (c : Meaning) (from : ℕ) (given : Rows) (start : ℕ) (old : Watched W) (saver : S) where
  pub saw_none : SawOnlyReported contents saw c from given start old saver saver
  saw_none = record { rosters = []; reported = All-nil (IsReported contents c from given start old); all = refl }

  pub saw_one : (mid : S) (r : Rows) (after : S) → SawOnlyReported contents saw c from given start old saver mid → IsReported contents c from given start old r → saw mid c r after → SawOnlyReported contents saw c from given start old saver after
  saw_one mid r after p reported one = record {
    rosters = p.rosters ++ r ∷ [];
    reported = All-append (IsReported contents c from given start old) p.rosters (r ∷ []) p.reported (All-cons (IsReported contents c from given start old) r [] reported (All-nil (IsReported contents c from given start old)));
    all = saw_more saw c p.rosters saver mid r after p.all one;
  }

  pub saw_if : (b : Bool) (mid : S) (r : Rows) (after : S) → SawOnlyReported contents saw c from given start old saver mid → (b ≡ true → IsReported contents c from given start old r) → IsShownIf saw c r b mid after → SawOnlyReported contents saw c from given start old saver after
  saw_if true mid r after p reported one = saw_one mid r after p (reported refl) one
  saw_if false mid r after p reported one = subst (SawOnlyReported contents saw c from given start old saver) (sym one) p
