use Rattle.std.proofs.Common.{[], inl, inr, refl, rules}
use Rattle.roster_answers.specs.declared.fault.Fault.TheVariants as fault
use Rattle.roster_cli.proofs.AnswerLemmas.{unread}
use Rattle.roster_cli.proofs.answer.run_command.Goals as goal

pub returns-in-Err-clause-refused : goal.returns-in-Err-clause-refused
returns-in-Err-clause-refused g c = λ other. record {
  fault = fault.Text c.in-Err.fault;
  status_is = c.report_fault.ensures.status;
  met = c.args.log.now;
  refused = inl (
    unread _ (record { remaining = g.R.Read.remaining; before = c.args.input.now; after = c.read_all.new.input }) c.in-Err.fault c.in-Err.ensures.no_other_error c.in-Err.ensures.failed c.in-Err.ensures.too_long,
    refl,
    refl,
  );
  reported = c.report_fault.ensures.line;
}

pub returns-clause-refused : goal.returns-clause-refused
returns-clause-refused g c = λ other. record {
  fault = c.in-Err-report_bytes.fault;
  status_is = c.report_to.ensures.status;
  met = c.report_bytes.new.log;
  refused = inr (record {
    bytes = c.deref.result.now;
    read = record { all = search rules; end = search rules; kept = search rules; failures = search rules };
    answers = c.in-Err-report_bytes.ensures.answers;
  });
  reported = c.report_to.ensures.line;
}

pub returns-in-Err-clause-saved : goal.returns-in-Err-clause-saved
returns-in-Err-clause-saved g c = ([], inl refl)
