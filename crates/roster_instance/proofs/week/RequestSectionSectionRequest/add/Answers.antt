use Rattle.std.proofs.Common.{◌∙◌, ◌+◌, ◌*◌, List, ap, ap₂, get_or, length, sym}
use Rattle.std.proofs.lemmas.List.{length-set, take_at}
use Rattle.std.specs.Str.{bytes_eq}
use Rattle.roster_instance.specs.declared.rules.DayRequests.{DayRequests}
use Rattle.roster_instance.specs.CaseParts.{requests_with, with_any, with_shift}
use Rattle.roster_instance.specs.Meaning.{no_requests}
use Rattle.roster_instance.proofs.RequestLemmas.{any-requested, shift-requested}
use Rattle.roster_instance.proofs.week.RequestSectionSectionRequest.add.Goals as goal

pub returns-then-eq-clause-built : goal.returns-then-eq-clause-built
returns-then-eq-clause-built c = λ earlier is.
    let s = c.args.self.now in
    let index = 7 * c.in_ok-nurse.nurse + c.weekday.result in
    let written : List DayRequests → List DayRequests = requests_with index with_any in
    take_at c.request_any.new.requests _ s.requests.len
    (ap length c.request_any.ensures ∙ length-set c.deref_mut.result.now index (with_any (get_or c.deref_mut.result.now index no_requests)) ∙ c.deref_mut.ensures.len)
    ∙ c.request_any.ensures
    ∙ ap written c.deref_mut.ensures.value
    ∙ sym (any-requested s.source.now s.scenario.now.nurses s.scenario.now.shifts earlier s.requests.items is
    c.args.request.now c.in_ok-nurse.nurse c.in_ok-nurse.ensures.number c.weekday.result c.weekday.ensures.number c.weekday.ensures.within
    (ap₂ bytes_eq (sym c.text.ensures) (sym c.as_slice.ensures) ∙ sym c.eq.ensures ∙ c.if-eq.true))

pub returns-in_ok-shift-clause-built : goal.returns-in_ok-shift-clause-built
returns-in_ok-shift-clause-built c = λ earlier is.
    let s = c.args.self.now in
    let index = 7 * c.in_ok-nurse.nurse + c.weekday.result in
    let shift = c.in_ok-shift.shift in
    let written : List DayRequests → List DayRequests = requests_with index (with_shift shift) in
    take_at c.request_shift.new.requests _ s.requests.len
    (ap length c.request_shift.ensures ∙ length-set c.deref_mut-else-eq.result.now index (with_shift shift (get_or c.deref_mut-else-eq.result.now index no_requests)) ∙ c.deref_mut-else-eq.ensures.len)
    ∙ c.request_shift.ensures
    ∙ ap written c.deref_mut-else-eq.ensures.value
    ∙ sym (shift-requested s.source.now s.scenario.now.nurses s.scenario.now.shifts earlier s.requests.items is
    c.args.request.now c.in_ok-nurse.nurse c.in_ok-nurse.ensures.number c.weekday.result c.weekday.ensures.number c.weekday.ensures.within
    (ap₂ bytes_eq (sym c.text.ensures) (sym c.as_slice.ensures) ∙ sym c.eq.ensures ∙ c.if-eq.false)
    shift c.in_ok-shift.ensures.number)
