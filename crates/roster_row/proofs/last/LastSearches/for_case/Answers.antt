use Rattle.std.proofs.Common.{◌≡◌, ◌∙◌, ◌*◌, ◌<◌, None, Option, IfSome, ℕ, ap, arith, replicate, rules, slice_index_or, subst, sym}
use Rattle.std.proofs.lemmas.List.{get_or-replicate}
use Rattle.roster_instance.specs.Meaning.{day_count, nurse_count}
use Rattle.roster_row.specs.Recalled.{WasSearchedAt}
use Rattle.roster_row.proofs.last.LastSearches.for_case.Goals as goal

pub returns : goal.returns
returns c = record {
  recalls = record {
    nurses = omega (arith, c.in_ok-vec-2.ensures.len, c.in_ok-vec-2.field-0.ok.0, c.nurses-nurses.ensures.count);
    days =
        let all : c.nurses-nurses.result * c.days-days.result ≡ nurse_count c.args.case.now * day_count c.args.case.now = λ i. c.nurses-nurses.ensures.count i * c.days-days.ensures.count i in
        omega (arith, c.in_ok-vec.ensures.len, c.in_ok-vec.field-0.ok.0, all);
    searched = λ n inside.
        let none : c.in_ok-vec-2.field-0.items ≡ replicate c.nurses-nurses.result None = search rules in
        subst (λ (o : Option ℕ). IfSome o (WasSearchedAt c.args.case.now 1 (record { prices = c.in_ok-vec.field-0; costs = c.in_ok-vec-2.field-0 }) n)) (sym (ap (λ xs. slice_index_or xs n None) none ∙ get_or-replicate c.nurses-nurses.result n None None (subst (λ m. n < m) (sym c.nurses-nurses.ensures.count) inside))) tt;
  };
}
