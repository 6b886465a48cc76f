use Rattle.std.proofs.Common.{◌≡◌, ◌∙◌, ◌<◌, [], None, Some, ap, arith, cond, false, inl, inr, length, map, nat_lt, slice_index_or, sym, true}
use Rattle.std.specs.Prelude.{bytes_eq}
use Rattle.std.proofs.lemmas.Bool.{cases_lt, le-ltb, lt-ltb}
use Rattle.std.proofs.lemmas.List.{get_or-map, length-map}
use Rattle.std.proofs.lemmas.List.Sums.{position_or_len_is}
use Rattle.roster_instance.proofs.names.number_among.Goals as goal

pub returns-then-eq : goal.returns-then-eq
returns-then-eq c =
    let name = c.args.name.now in
    let number = c.loop-number.number in
    let all = map (λ own. own.items) c.args.names.now in
    let long : length all ≡ length c.args.names.now = length-map c.args.names.now (λ own. own.items) in
    let inside : number < length c.args.names.now = omega (arith, c.loop-number-test.true) in
    let at : slice_index_or all number [] ≡ c.as_slice.result.now = get_or-map (λ own. own.items) c.args.names.now number c.index-names-number.result [] inside ∙ ap (λ own. own.items) (sym c.index-names-number.is) ∙ sym c.as_slice.ensures.value in
    let is = position_or_len_is (bytes_eq name) all number [] (omega (arith, inside, long)) c.loop-number.invariant.others (λ _. ap (bytes_eq name) at ∙ sym c.eq.ensures ∙ c.if-eq.true) in
    let here : nat_lt number (length all) ≡ true = lt-ltb number (length all) (omega (arith, inside, long)) in
    sym (ap (λ k. cond (nat_lt k (length all)) (Some k) None) is ∙ ap (λ b. cond b (Some number) None) here)

pub loop-number-preserved : goal.loop-number-preserved
loop-number-preserved c =
    let name = c.args.name.now in
    let number = c.loop-number.number in
    let all = map (λ own. own.items) c.args.names.now in
    let inside : number < length c.args.names.now = omega (arith, c.loop-number-test.true) in
    let at : slice_index_or all number [] ≡ c.as_slice.result.now = get_or-map (λ own. own.items) c.args.names.now number c.index-names-number.result [] inside ∙ ap (λ own. own.items) (sym c.index-names-number.is) ∙ sym c.as_slice.ensures.value in
    let other : bytes_eq name (slice_index_or all number []) ≡ false = ap (bytes_eq name) at ∙ sym c.eq.ensures ∙ c.if-eq.false in
    record {
      others = λ k below. elim (cases_lt k number) [
        | inl earlier ↦ c.loop-number.invariant.others k earlier
        | inr not_earlier ↦ let last : k ≡ number = omega (arith, below, not_earlier) in ap (λ j. bytes_eq name (slice_index_or all j [])) last ∙ other
      ];
    }

pub returns : goal.returns
returns c =
    let name = c.args.name.now in
    let all = map (λ own. own.items) c.args.names.now in
    let long : length all ≡ length c.args.names.now = length-map c.args.names.now (λ own. own.items) in
    let none = position_or_len_is (bytes_eq name) all (length all) [] (omega arith) (λ k below. c.loop-number.invariant.others k (omega (arith, below, long, c.loop-number-test.false, c.loop-number.auto.number-end))) (λ below. absurd (omega (arith, below))) in
    let end = le-ltb (length all) (length all) (omega arith) in
    sym (ap (λ k. cond (nat_lt k (length all)) (Some k) None) none ∙ ap (λ b. cond b (Some (length all)) None) end)
