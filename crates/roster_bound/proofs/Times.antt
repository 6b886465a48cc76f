-- The clock is read again.
use Rattle.std.proofs.Common.{◌≡◌, ◌∙◌, ◌+◌, ◌≤◌, ℕ, Option, None, Some, arith, inl, inr, refl, subst, sym, true}
use Rattle.std.proofs.lemmas.Bool.{le-leb, leb-true}
use Rattle.roster_instance.specs.Meaning.{Meaning}
use Rattle.roster_timer.specs.Deadlines.{IsLater, Time, is_at_end, is_up}
use Rattle.roster_bound.specs.Branchings.{HasSearched, HasSearchedFor}

pub later-same : (time : Time) → IsLater time time
later-same time = record { ends = refl; last = omega arith; step = omega arith }

pub later-then : (old mid new : Time) → IsLater old mid → IsLater mid new → IsLater old new
later-then old mid new p q = record { ends = q.ends ∙ p.ends; last = omega (arith, p.last, q.last); step = omega (arith, p.step, q.step) }

-- once the time is up, it stays so
pub still_up : (old new : Time) → IsLater old new → is_up old ≡ true → is_up new ≡ true
still_up old new p up = subst (λ ends. is_at_end ends new.last new.step ≡ true) (sym p.ends) (go old.ends up)
  where
    go : (ends : Option ℕ) → is_at_end ends old.last old.step ≡ true → is_at_end ends new.last new.step ≡ true
    go None e = e
    go (Some end) e = le-leb end (new.last + new.step) (omega (arith, leb-true end (old.last + old.step) e, p.last, p.step))

-- ---- searches

module _ (c : Meaning) (rounds old mid new : ℕ) (before now : Time) (later : IsLater before now) (so_far : HasSearchedFor c before rounds old mid) where
  pub searched-later : mid ≤ new → HasSearchedFor c now rounds old new
  searched-later grows = elim so_far [
    | inl up ↦ inl (still_up before now later up)
    | inr counted ↦ inr (omega (arith, grows, counted))
  ]

  pub searched-more : HasSearched c now mid new → HasSearchedFor c now (rounds + 1) old new
  searched-more (inl up) = inl up
  searched-more (inr one) = elim so_far [
    | inl up ↦ inl (still_up before now later up)
    | inr counted ↦ inr (omega (arith, one, counted))
  ]
