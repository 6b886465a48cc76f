use Rattle.std.proofs.Common.{rules}
use Rattle.std.proofs.lemmas.List.Sorted.{answers_always}
use Rattle.roster_who.specs.declared.taker.Taker.{Taker}
use Rattle.roster_who.proofs.taker.put_in_order.Goals as goal

pub returns : goal.returns
returns c = record {
  same = c.sort_unstable_by_key.ensures.permutation;
  sorted = c.sort_unstable_by_key.ensures.sorted (λ (t : Taker). (t.missed, t.penalty, t.nurse)) (answers_always _ _ _ (λ f a r g h. search rules));
}
