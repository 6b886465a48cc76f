use Rattle.std.proofs.Common.{◌≡◌, ◌∙◌, ◌+◌, ◌<◌, ◌≤◌, ◌⊎◌, ap, arith, inl, inr, length, refl, subst, sym}
use Rattle.std.specs.Prelude.{vec_capacity, vec_len}
use Rattle.std.proofs.lemmas.Bool.{true≢false}
use Rattle.std.proofs.lemmas.Result.{err_from_is_err_and}
use Rattle.roster_laws.proofs.Frozen.{stays_self}
use Rattle.roster_bound.specs.BoundLogs.{rounds_alone}
use Rattle.roster_bound.specs.BoundRuns.{HasReached}
use Rattle.roster_bound.specs.Branching.{IsNodesBound}
use Rattle.roster_bound.proofs.BranchingLaws.{branched-end, raised_is, branched-later, branched-none, branched-raised, branched_breaks, least_of_root, least_within, reached_by_prices, stops-later}
use Rattle.roster_bound.proofs.Counted.{branching_counted, branching_fits_meter, branching_within, branchings_within}
use Rattle.roster_bound.proofs.NodeLaws.{bound_of_all, root_is, some_node}
use Rattle.roster_bound.specs.Branchings.{AreNoMore, EndsBranching, HasSearchedFor, ReachesLeast}
use Rattle.roster_bound.specs.NodeCapacity.{NodesCapacity}
use Rattle.roster_bound.specs.PooledUses.{IsStuck}
use Rattle.roster_bound.specs.declared.nodes.Nodes.{Nodes}
use Rattle.roster_bound.proofs.Times.{later-then}
use Rattle.roster_bound.proofs.BranchingLaws.{stuck_now}
use Rattle.roster_slots.specs.declared.pool.ColumnPool.{ColumnPool}
use Rattle.roster_timer.specs.Deadlines.{time_of}
use Rattle.roster_bound.proofs.rounds.raise_below.Goals as goal
use Rattle.roster_prices.specs.LowerBounds.{IsLowerBound}

pub bound-bound-requires : goal.bound-bound-requires
bound-bound-requires g c =
    let b = c.args.top.now.base.now in
    some_node b.case.now b.from b.given.now c.branch_least-is_branched.new.space.nodes.items.items c.branch_least-is_branched.ensures.nodes

pub branch_least-is_branched-requires-clause-room : goal.branch_least-is_branched-requires-clause-room
branch_least-is_branched-requires-clause-room g c =
    let l = c.loop-branched in
    branching_fits_meter c.args.top.now.base.now.case.now c.args.effort.rounds l.branched c.args.meter.now l.meter l.invariant.counted c.args.effort.nodes 18446744073709551615 c.loop-branched-test.true c.requires.room

pub returns-in_err-sent-clause-err : goal.returns-in_err-sent-clause-err
returns-in_err-sent-clause-err g c =
    let l = c.loop-branched in
    let b = c.args.top.now.base.now in
    let p = err_from_is_err_and c.from_residual-in_err-sent.result c.from_residual-in_err-sent.ensures.1 in
    let nodes = c.branch_least-is_branched.new.space.nodes.items.items in
    let least : IsNodesBound b.case.now b.from b.given.now c.bound-bound.result = record { nodes = nodes; are = c.branch_least-is_branched.ensures.nodes; least = c.bound-bound.ensures } in
    rw (p.1, p.2)
    (stops-later g.W.Write.contents b.case.now b.from b.given.now c.args.meter.now l.invariant.branched.by_rounds c.args.log.now (record { rounds = c.args.effort.rounds; nodes = l.branched + 1 }) c.args.effort.nodes c.log_round.new.log _ (omega (arith, c.loop-branched-test.true))
    (branched_breaks g.W.Write.contents b.case.now b.from b.given.now c.args.meter.now l.invariant.branched.by_rounds c.args.log.now c.args.effort.rounds l.branched c.bound-bound.result l.invariant.branched.by_rounds l.log c.log_round.new.log l.reached c.in_err-sent.field-0.0
    l.invariant.branched.has (omega (arith, c.if-bound-reached.false)) least c.in_err-sent.ensures.err))

pub returns-in_err-sent-clause-counted : goal.returns-in_err-sent-clause-counted
returns-in_err-sent-clause-counted g c =
    let l = c.loop-branched in
    branching_within c.args.top.now.base.now.case.now c.args.effort.rounds l.branched c.args.meter.now l.meter l.invariant.counted c.args.effort.nodes c.branch_least-is_branched.new.meter c.loop-branched-test.true c.branch_least-is_branched.ensures.counted

pub loop-branched-preserved : goal.loop-branched-preserved
loop-branched-preserved g c =
    let l = c.loop-branched in
    let b = c.args.top.now.base.now in
    let nodes = c.branch_least-is_branched.new.space.nodes.items.items in
    let least : IsNodesBound b.case.now b.from b.given.now c.bound-bound.result = record { nodes = nodes; are = c.branch_least-is_branched.ensures.nodes; least = c.bound-bound.ensures } in
    let below : IsLowerBound b.case.now b.from b.given.now c.bound-bound.result = bound_of_all b.case.now b.from b.given.now nodes c.bound-bound.result c.branch_least-is_branched.ensures.nodes c.bound-bound.ensures.all in
    let is_branched = c.branch_least-is_branched in
    record {
      branched = branched-raised g.W.Write.contents b.case.now b.from b.given.now c.args.effort.rounds l.branched c.args.meter.now l.meter c.args.log.now l.log (time_of l.deadline) l.reached l.invariant.branched is_branched.new.meter (time_of is_branched.new.deadline)
          (later-then (time_of l.deadline) (time_of c.left.new.self) (time_of is_branched.new.deadline) c.left.ensures.later is_branched.ensures.later) is_branched.ensures.grows (is_branched.ensures.searched c.if-not-is_branched.false) c.in_ok-sent.sent c.bound-bound.result
          c.log_round.new.log (omega (arith, c.if-bound-reached.false)) least c.in_ok-sent.ensures.ok;
      below = below;
      nodes = c.branch_least-is_branched.ensures.nodes;
      least = least_within nodes c.bound-bound.result c.bound-bound.result c.bound-bound.ensures (omega arith);
      few = omega (arith, is_branched.ensures.few, l.invariant.few);
      same_nodes = c.branch_least-is_branched.ensures.same_nodes ∙ l.invariant.same_nodes;
      ends = c.branch_least-is_branched.ensures.later.ends ∙ c.left.ensures.later.ends ∙ l.invariant.ends;
      counted = branching_counted b.case.now c.args.effort.rounds l.branched c.args.meter.now l.meter l.invariant.counted c.branch_least-is_branched.new.meter c.branch_least-is_branched.ensures.counted;
      fits = c.branch_least-is_branched.ensures.fits;
    }

pub returns-clause-within : goal.returns-clause-within
returns-clause-within g c =
    let b = c.args.top.now.base.now in
    omega (arith, c.loop-branched.invariant.below b.given.now b.fits c.args.top.now.keeps (stays_self b.case.now b.from b.given.now), c.args.top.now.total_is)

pub returns-then-reached-top-clause-counted : goal.returns-then-reached-top-clause-counted
returns-then-reached-top-clause-counted g c =
    let l = c.loop-branched in
    branchings_within c.args.top.now.base.now.case.now c.args.effort.rounds l.branched c.args.meter.now l.meter l.invariant.counted c.args.effort.nodes (omega (arith, c.loop-branched-test.true))

pub returns-then-not-is_branched-clause-counted : goal.returns-then-not-is_branched-clause-counted
returns-then-not-is_branched-clause-counted g c =
    let l = c.loop-branched in
    branching_within c.args.top.now.base.now.case.now c.args.effort.rounds l.branched c.args.meter.now l.meter l.invariant.counted c.args.effort.nodes c.branch_least-is_branched.new.meter c.loop-branched-test.true c.branch_least-is_branched.ensures.counted

-- no lower bound is higher: the log stays as it was
pub loop-branched-preserved-then-bound-reached : goal.loop-branched-preserved-then-bound-reached
loop-branched-preserved-then-bound-reached g c =
    let l = c.loop-branched in
    let b = c.args.top.now.base.now in
    let is_branched = c.branch_least-is_branched in
    record {
      branched = branched-later g.W.Write.contents b.case.now b.from b.given.now c.args.effort.rounds l.branched c.args.meter.now l.meter c.args.log.now l.log (time_of l.deadline) l.reached l.invariant.branched is_branched.new.meter (time_of is_branched.new.deadline)
          (later-then (time_of l.deadline) (time_of c.left.new.self) (time_of is_branched.new.deadline) c.left.ensures.later is_branched.ensures.later) is_branched.ensures.grows (is_branched.ensures.searched c.if-not-is_branched.false);
      below = l.invariant.below;
      nodes = c.branch_least-is_branched.ensures.nodes;
      least = least_within c.branch_least-is_branched.new.space.nodes.items.items c.bound-bound.result l.reached.bound c.bound-bound.ensures (omega (arith, c.if-bound-reached.true));
      few = omega (arith, is_branched.ensures.few, l.invariant.few);
      same_nodes = c.branch_least-is_branched.ensures.same_nodes ∙ l.invariant.same_nodes;
      ends = c.branch_least-is_branched.ensures.later.ends ∙ c.left.ensures.later.ends ∙ l.invariant.ends;
      counted = branching_counted b.case.now c.args.effort.rounds l.branched c.args.meter.now l.meter l.invariant.counted c.branch_least-is_branched.new.meter c.branch_least-is_branched.ensures.counted;
      fits = c.branch_least-is_branched.ensures.fits;
    }

-- the root has all rosters
pub loop-branched-init : goal.loop-branched-init
loop-branched-init g c =
    let b = c.args.top.now.base.now in
    let by = c.in_ok-rounds.rounds in
    let reached = by.reached in
    let same : by.rounds ≡ c.args.effort.rounds = omega (arith, c.in_ok-rounds.ensures.few, c.if-rounds-effort.false) in
    let ok = subst (λ n. HasReached g.W.Write.contents b.case.now b.from b.given.now (rounds_alone n) c.args.meter.now c.make_rounds.new.meter c.args.log.now c.make_rounds.new.log reached) same c.in_ok-rounds.ensures.ok in
    record {
      branched = branched-none g.W.Write.contents b.case.now b.from b.given.now c.args.effort.rounds 0 c.args.meter.now c.make_rounds.new.meter c.args.log.now c.make_rounds.new.log (time_of c.make_rounds.new.deadline) reached ok;
      below = c.in_ok-rounds.ensures.below;
      nodes = root_is b.case.now b.from b.given.now reached.bound c.begin.new.self.items.items c.in_ok-rounds.ensures.below
          (reached_by_prices g.W.Write.contents b.case.now b.from b.given.now c.args.effort.rounds c.args.meter.now c.make_rounds.new.meter c.args.log.now c.make_rounds.new.log reached ok) (c.if-not-begin.ensures.root refl);
      least = least_of_root c.begin.new.self.items.items reached.bound (c.if-not-begin.ensures.root refl);
      few = omega (arith, ap length (c.if-not-begin.ensures.root refl).only);
      same_nodes = c.begin.ensures.same_capacity;
      ends = c.in_ok-rounds.ensures.ends;
      counted = omega (arith, c.in_ok-rounds.ensures.counted);
      fits = c.in_ok-rounds.ensures.fits;
    }

pub returns-then-reached-top-clause-within : goal.returns-then-reached-top-clause-within
returns-then-reached-top-clause-within g c =
    let b = c.args.top.now.base.now in
    omega (arith, c.loop-branched.invariant.below b.given.now b.fits c.args.top.now.keeps (stays_self b.case.now b.from b.given.now), c.args.top.now.total_is)

pub returns-clause-counted : goal.returns-clause-counted
returns-clause-counted g c =
    let l = c.loop-branched in
    branchings_within c.args.top.now.base.now.case.now c.args.effort.rounds l.branched c.args.meter.now l.meter l.invariant.counted c.args.effort.nodes (omega (arith, l.auto.branched-end))

pub returns-then-not-is_branched-clause-made : goal.returns-then-not-is_branched-clause-made
returns-then-not-is_branched-clause-made g c = rw (c.raised_by-then-not-is_branched.ensures.effort) (record { rounds = omega arith; nodes = omega arith; all = λ e. refl })

pub returns-then-not-is_branched-clause-below : goal.returns-then-not-is_branched-clause-below
returns-then-not-is_branched-clause-below g c = rw (c.raised_by-then-not-is_branched.ensures.bound) c.loop-branched.invariant.below

pub returns-then-reached-top-clause-made : goal.returns-then-reached-top-clause-made
returns-then-reached-top-clause-made g c = rw (c.raised_by-then-reached-top.ensures.effort) (record { rounds = omega arith; nodes = omega arith; all = λ e. refl })

pub returns-then-reached-top-clause-below : goal.returns-then-reached-top-clause-below
returns-then-reached-top-clause-below g c = rw (c.raised_by-then-reached-top.ensures.bound) c.loop-branched.invariant.below

pub returns-clause-made : goal.returns-clause-made
returns-clause-made g c = rw (c.raised_by-2.ensures.effort) (record { rounds = omega arith; nodes = omega arith; all = λ e. refl })

pub returns-clause-below : goal.returns-clause-below
returns-clause-below g c = rw (c.raised_by-2.ensures.bound) c.loop-branched.invariant.below

-- ---- the time is up

pub returns-then-left-eq0-clause-made : goal.returns-then-left-eq0-clause-made
returns-then-left-eq0-clause-made g c =
    let up = c.left.ensures.up.0 c.if-left-eq0.true in
    rw (c.raised_by-then-left-eq0.ensures.effort) (record { rounds = omega arith; nodes = omega (arith, c.loop-branched-test.true); all = λ e. absurd (true≢false (sym up ∙ e)) })

pub returns-then-left-eq0-clause-below : goal.returns-then-left-eq0-clause-below
returns-then-left-eq0-clause-below g c = rw (c.raised_by-then-left-eq0.ensures.bound) c.loop-branched.invariant.below

pub returns-then-left-eq0-clause-counted : goal.returns-then-left-eq0-clause-counted
returns-then-left-eq0-clause-counted g c =
    let l = c.loop-branched in
    branchings_within c.args.top.now.base.now.case.now c.args.effort.rounds l.branched c.args.meter.now l.meter l.invariant.counted c.args.effort.nodes (omega (arith, c.loop-branched-test.true))

-- ---- there are no nodes

pub returns-then-not-begin-clause-below : goal.returns-then-not-begin-clause-below
returns-then-not-begin-clause-below g c = rw (c.raised_by-then-not-begin.ensures.bound) c.in_ok-rounds.ensures.below

pub returns-then-not-begin-clause-within : goal.returns-then-not-begin-clause-within
returns-then-not-begin-clause-within g c =
    let b = c.args.top.now.base.now in
    omega (arith, c.raised_by-then-not-begin.ensures.bound, c.in_ok-rounds.ensures.below b.given.now b.fits c.args.top.now.keeps (stays_self b.case.now b.from b.given.now), c.args.top.now.total_is)

-- ---- why there are no more branchings

pub returns-then-reached-top-clause-branched : goal.returns-then-reached-top-clause-branched
returns-then-reached-top-clause-branched g c =
    let l = c.loop-branched in
    let b = c.args.top.now.base.now in
    subst (EndsBranching g.W.Write.contents b.case.now b.from b.given.now l.deadline l.space c.args.meter.now l.meter c.args.log.now l.log)
    (raised_is c.raised_by-then-reached-top.result l.reached.bound (record { rounds = c.args.effort.rounds; nodes = c.args.effort.nodes }) c.raised_by-then-reached-top.ensures.bound c.raised_by-then-reached-top.ensures.effort)
    (branched-end g.W.Write.contents b.case.now b.from b.given.now c.args.effort.rounds l.branched c.args.meter.now l.meter c.args.log.now l.log (time_of l.deadline) l.reached
    l.invariant.branched c.args.effort.nodes l.meter l.deadline l.space (omega (arith, c.loop-branched-test.true)) (omega arith) (inl (omega (arith, c.if-reached-top.true, c.args.top.now.total_is)))
    (λ capacity. l.invariant.least))

pub returns-then-left-eq0-clause-branched : goal.returns-then-left-eq0-clause-branched
returns-then-left-eq0-clause-branched g c =
    let l = c.loop-branched in
    let b = c.args.top.now.base.now in
    subst (EndsBranching g.W.Write.contents b.case.now b.from b.given.now c.left.new.self l.space c.args.meter.now l.meter c.args.log.now l.log)
    (raised_is c.raised_by-then-left-eq0.result l.reached.bound (record { rounds = c.args.effort.rounds; nodes = l.branched }) c.raised_by-then-left-eq0.ensures.bound c.raised_by-then-left-eq0.ensures.effort)
    (branched-end g.W.Write.contents b.case.now b.from b.given.now c.args.effort.rounds l.branched c.args.meter.now l.meter c.args.log.now l.log (time_of l.deadline) l.reached
    l.invariant.branched l.branched l.meter c.left.new.self l.space (omega arith) (omega arith) (inr (inr (inr (inl (c.left.ensures.up.0 c.if-left-eq0.true)))))
    (λ capacity. l.invariant.least))

pub returns-then-not-is_branched-clause-branched : goal.returns-then-not-is_branched-clause-branched
returns-then-not-is_branched-clause-branched g c =
    let l = c.loop-branched in
    let b = c.args.top.now.base.now in
    let by = c.branch_least-is_branched in
    let nodes : Nodes = by.new.space.nodes in
    let pool : ColumnPool = by.new.space.bounds.pool in
    let old : Nodes = l.space.nodes in
    let capacity : vec_capacity nodes.items ≡ vec_capacity old.items = ap (λ (x : NodesCapacity). x.items) by.ensures.same_nodes in
    let why : (vec_capacity old.items ≤ vec_len old.items) ⊎ IsStuck b.case.now old nodes pool = by.ensures.useless c.if-not-is_branched.true in
    let no_more : AreNoMore b.case.now b.given.now c.args.effort.nodes (time_of by.new.deadline) nodes pool l.reached.bound l.invariant.branched.by_rounds by.new.meter =
    elim why [
      | inl full ↦ inr (inl (omega (arith, full, capacity, l.invariant.few, c.loop-branched-test.true)))
      | inr stuck ↦ inr (inr (inl (stuck_now b.case.now old nodes pool stuck)))
    ] in
    let least : c.args.effort.nodes < vec_capacity nodes.items → ReachesLeast nodes.items.items l.reached.bound = λ enough.
    elim why [
      | inl full ↦ absurd (omega (arith, enough, full, capacity, l.invariant.few, c.loop-branched-test.true))
      | inr stuck ↦ subst (λ items. ReachesLeast items l.reached.bound) (sym stuck.same) l.invariant.least
    ] in
    subst (EndsBranching g.W.Write.contents b.case.now b.from b.given.now by.new.deadline by.new.space c.args.meter.now by.new.meter c.args.log.now l.log)
    (raised_is c.raised_by-then-not-is_branched.result l.reached.bound (record { rounds = c.args.effort.rounds; nodes = c.args.effort.nodes }) c.raised_by-then-not-is_branched.ensures.bound c.raised_by-then-not-is_branched.ensures.effort)
    (branched-end g.W.Write.contents b.case.now b.from b.given.now c.args.effort.rounds l.branched c.args.meter.now l.meter c.args.log.now l.log (time_of l.deadline) l.reached
    l.invariant.branched c.args.effort.nodes by.new.meter by.new.deadline by.new.space (omega (arith, c.loop-branched-test.true)) by.ensures.grows no_more least)

pub returns-clause-branched : goal.returns-clause-branched
returns-clause-branched g c =
    let l = c.loop-branched in
    let b = c.args.top.now.base.now in
    let all : l.branched ≡ c.args.effort.nodes = omega (arith, l.auto.branched-end, c.loop-branched-test.false) in
    let searched = subst (λ n. HasSearchedFor b.case.now (time_of l.deadline) n l.invariant.branched.by_rounds l.meter) all l.invariant.branched.searched in
    subst (EndsBranching g.W.Write.contents b.case.now b.from b.given.now l.deadline l.space c.args.meter.now l.meter c.args.log.now l.log)
    (raised_is c.raised_by-2.result l.reached.bound (record { rounds = c.args.effort.rounds; nodes = c.args.effort.nodes }) c.raised_by-2.ensures.bound c.raised_by-2.ensures.effort)
    (branched-end g.W.Write.contents b.case.now b.from b.given.now c.args.effort.rounds l.branched c.args.meter.now l.meter c.args.log.now l.log (time_of l.deadline) l.reached
    l.invariant.branched c.args.effort.nodes l.meter l.deadline l.space (omega (arith, l.auto.branched-end)) (omega arith) (inr (inr (inr searched)))
    (λ capacity. l.invariant.least))

-- there is no capacity for a node

pub returns-then-not-begin-clause-branched : goal.returns-then-not-begin-clause-branched
returns-then-not-begin-clause-branched g c =
    let b = c.args.top.now.base.now in
    let by = c.in_ok-rounds.rounds in
    let same : by.rounds ≡ c.args.effort.rounds = omega (arith, c.in_ok-rounds.ensures.few, c.if-rounds-effort.false) in
    let ok = subst (λ n. HasReached g.W.Write.contents b.case.now b.from b.given.now (rounds_alone n) c.args.meter.now c.make_rounds.new.meter c.args.log.now c.make_rounds.new.log by.reached) same c.in_ok-rounds.ensures.ok in
    let none = c.if-not-begin.ensures.full refl in
    let capacity = ap (λ (x : NodesCapacity). x.items) c.begin.ensures.same_capacity in
    subst (EndsBranching g.W.Write.contents b.case.now b.from b.given.now c.make_rounds.new.deadline (record { bounds = c.make_rounds.new.workspace; nodes = c.begin.new.self }) c.args.meter.now c.make_rounds.new.meter c.args.log.now c.make_rounds.new.log)
    (raised_is c.raised_by-then-not-begin.result by.reached.bound (record { rounds = c.args.effort.rounds; nodes = c.args.effort.nodes }) c.raised_by-then-not-begin.ensures.bound c.raised_by-then-not-begin.ensures.effort)
    (branched-end g.W.Write.contents b.case.now b.from b.given.now c.args.effort.rounds 0 c.args.meter.now c.make_rounds.new.meter c.args.log.now c.make_rounds.new.log (time_of c.make_rounds.new.deadline) by.reached
    (branched-none g.W.Write.contents b.case.now b.from b.given.now c.args.effort.rounds 0 c.args.meter.now c.make_rounds.new.meter c.args.log.now c.make_rounds.new.log (time_of c.make_rounds.new.deadline) by.reached ok) c.args.effort.nodes c.make_rounds.new.meter
    c.make_rounds.new.deadline (record { bounds = c.make_rounds.new.workspace; nodes = c.begin.new.self }) (omega arith) (omega arith) (inr (inl (omega (arith, none, capacity))))
    (λ enough. absurd (omega (arith, enough, none, capacity))))

pub branch_least-is_branched-requires-clause-below : goal.branch_least-is_branched-requires-clause-below
branch_least-is_branched-requires-clause-below g c = λ bound least. omega (arith, c.loop-branched.invariant.least bound least, c.if-reached-top.false)
