-- Which states are reachable after a day, by one more offer.
use Rattle.std.proofs.Common.{◌≡◌, ◌+◌, ◌<◌, ℕ, Bool, true, false, subst, sym, List, if◌then◌else◌, Option, Some, None, IfSome}
use Rattle.std.specs.List.{All}
use Rattle.roster_instance.specs.declared.choice.Shift.{Shift}
use Rattle.roster_instance.specs.Choices.{shift_of}
use Rattle.roster_instance.specs.Meaning.{Meaning, forbids, shift_count}
use Rattle.roster_rules.specs.Prefix.{Summary}
use Rattle.roster_state.specs.declared.state_box.StateBox.{StateBox}
use Rattle.roster_state.specs.Boxes.{InBox, box_at}
use Rattle.roster_state.specs.Codes.{shift_digit, sizes_of}
use Rattle.roster_state.specs.Transition.{next_of, transition_cost, transition_of}
use Rattle.roster_state.proofs.CodeLemmas.{fits-all}
use Rattle.roster_state.proofs.RangeLemmas.{next_fits}
use Rattle.roster_state.proofs.Reachable.{next_can_be}
use Rattle.roster_offers.specs.declared.offer.Offer.{Offer}
use Rattle.roster_tables.specs.Tables.{LeadsOn, IsReachable}

next_last : (c : Meaning) (n day : ℕ) (s : Summary) (shift : Option Shift) → (next_of c n day s shift).last ≡ shift
unfolding next_of
next_last c n day s shift = λ i. shift

-- wider boxes after the day
pub leads_kept : (c : Meaning) (n d : ℕ) (boxes after wider : List StateBox) (offers : List Offer) → ((digit : ℕ) (s : Summary) → InBox (box_at after digit) s → InBox (box_at wider digit) s) → All (LeadsOn c n d boxes after) offers → All (LeadsOn c n d boxes wider) offers
leads_kept c n d boxes after wider offers keeps old k x within s t reachable is =
    let there = old k x within s t reachable is in
    record { fits = there.fits; can_be = there.can_be; inside = keeps (shift_digit t.0.last) t.0 there.inside }

module _ (c : Meaning) (n d : ℕ) (boxes after : List StateBox) (offer : Offer) (shift : Option Shift) (is : shift ≡ shift_of offer.choice) (known : IfSome shift (λ u. u.0 < shift_count c))
    (leads : (s : Summary) → shift_digit s.last < shift_count c + 1 → InBox (box_at boxes (shift_digit s.last)) s → forbids c.successions s.last shift ≡ false → InBox (box_at after (shift_digit shift)) (next_of c n d s shift)) where
  module _ (s : Summary) (reachable : IsReachable c n boxes s) where
    abbrev next : Summary
    next = next_of c n d s shift

    next_reachable : forbids c.successions s.last shift ≡ false → IsReachable c n after next
    next_reachable allowed = record {
      fits = next_fits c n d s shift known;
      can_be = next_can_be c n d s shift reachable.can_be;
      inside = subst (λ l. InBox (box_at after (shift_digit l)) next) (sym (next_last c n d s shift)) (leads s (fits-all (sizes_of c n) s reachable.fits).last reachable.inside allowed);
    }

    reached : (b : Bool) (t : Summary × ℕ) → (if b then None else Some (next, transition_cost c n d s shift)) ≡ Some t → (b ≡ false → IsReachable c n after next) → IsReachable c n after t.0
    reached true t e there = absurd cc
    reached false t e there = let same : next ≡ t.0 = cc in subst (IsReachable c n after) same (there (λ i. false))

  pub leads_by : LeadsOn c n d boxes after offer
  leads_by s t reachable e = reached s reachable (forbids c.successions s.last shift) t (subst (λ x. transition_of c n d s x ≡ Some t) (sym is) e) (next_reachable s reachable)
