-- The ways on from a last shift, as they are found offer by offer.
use Rattle.std.proofs.Common.{⊎_elim, ◌≡◌, ◌≢◌, ◌+◌, ◌<◌, ◌≤◌, ℕ, zero, suc, List, Option, None, Some, ap, arith, get_or, get_or-set_other, get_or-set_same, length, refl, replicate, set, subst, sym, true}
use Rattle.std.proofs.lemmas.Bool.{cases_eq}
use Rattle.roster_instance.specs.declared.choice.Shift.{Shift}
use Rattle.roster_offers.specs.declared.offer.Offer.{Offer}
use Rattle.roster_state.specs.Codes.{shift_digit}
use Rattle.roster_completion.specs.declared.completion_day.CompletionDay.{CompletionDay}
use Rattle.roster_completion.specs.declared.ways.Onward.{Onward}
use Rattle.roster_completion.specs.declared.ways.Way.{Way}
use Rattle.roster_completion.specs.declared.ways.Ways.{Ways}
use Rattle.roster_completion.specs.Lines.{HasWay, IsOnward, IsOpenWay, IsWayOf, IsWayOn, no_onward, no_way, onward_at, way_at}
use Rattle.roster_completion.proofs.Indices.{index_below, some_shift_run}

-- an offer that was taken into account still is after the least cost has been lowered and ways have been
-- added
pub way_kept : (day : CompletionDay) (t : Shift) (x : Offer) (old new : Ways) (shift : Option Shift) → new.off ≤ old.off → new.stay ≤ old.stay → old.count ≤ new.count → ((k : ℕ) → k < old.count → way_at new.others k ≡ way_at old.others k) → IsWayOn day t old x shift → IsWayOn day t new x shift
way_kept day t x old new None l m longer same h = omega (arith, l, h)
way_kept day t x old new (Some u) l m longer same h =
    λ allowed. (λ e. let least = (h allowed).0 e in omega (arith, least, m), λ e. has ((h allowed).1 e))
  where
    has : HasWay day x u old → HasWay day x u new
    has h = record { at = h.at; below = omega (arith, h.below, longer); way = subst (λ (w : Way). IsWayOf day true x u w) (sym (same h.at h.below)) h.way }

no_way_open : (day : CompletionDay) → IsOpenWay day no_way
no_way_open day = record {
  price = omega arith;
  index = λ run l. let below = index_below day.lasts day.runs day.shift_runs 0 run 0 (omega (arith, day.lasts_are)) l (some_shift_run day) in omega (arith, below, day.all_next);
}

-- at first each way is the one that is never the cheapest
all_none : {X : Type 0} (none : X) (count k : ℕ) → get_or (replicate count none) k none ≡ none
all_none none zero k = refl
all_none none (suc n) zero = refl
all_none none (suc n) (suc k) = all_none none n k

pub none_open : (day : CompletionDay) (count k : ℕ) → IsOpenWay day (way_at (replicate count no_way) k)
none_open day count k = subst (IsOpenWay day) (sym (all_none no_way count k)) (no_way_open day)

pub onward_open : (day : CompletionDay) (count k : ℕ) → IsOpenWay day (onward_at (replicate count no_onward) k).way
onward_open day count k = subst (λ (x : Onward). IsOpenWay day x.way) (sym (all_none no_onward count k)) (no_way_open day)

module _ (X : Type 0) (none : X) (all : List X) (index : ℕ) (x : X) (inside : index < length all) where
  pub each_set : (P : X → Type 0) → ((k : ℕ) → P (get_or all k none)) → P x → (k : ℕ) → P (get_or (set all index x) k none)
  each_set P each here k =
      ⊎_elim
      (λ e. subst (λ j. P (get_or (set all index x) j none)) (sym e) (subst P (sym (get_or-set_same all index x none inside)) here))
      (λ other. subst P (sym (get_or-set_other all index k x none other)) (each k))
      (cases_eq k index)

-- ---- one way more

pub way_added : (day : CompletionDay) (t : Shift) (x : Offer) (ways : Ways) (onward : Onward) → ways.count < length ways.others → (u : Shift) → t.0 ≢ u.0 → (shift : Option Shift) → shift ≡ Some u → IsOnward day onward x shift
    → IsWayOn day t (record { off = ways.off; stay = ways.stay; count = ways.count + 1; others = set ways.others ways.count onward.way }) x shift
way_added day t x ways onward inside u other None e is = absurd (omega (arith, ap shift_digit e))
way_added day t x ways onward inside u other (Some v) e is =
    let same = ap shift_digit e in
    λ allowed. (
      λ again. absurd (other (omega (arith, again, same))),
      λ _. record {
        at = ways.count;
        below = omega arith;
        way = subst (λ (w : Way). IsWayOf day true x v w) (sym (get_or-set_same ways.others ways.count onward.way no_way inside)) is.1;
      },
    )
