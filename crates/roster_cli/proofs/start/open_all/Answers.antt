use Rattle.std.proofs.Common.{◌+◌, ◌++◌, ◌∷◌, [], arith, drop, inl, map, refl, rules, string_bytes, subst, sym, take}
use denote.Param.Always.{mut_next}
use Rattle.roster_cli.specs.Start.{OpensAll}
use Rattle.roster_cli.proofs.StartLemmas.{names_more, names_split, opens_more}
use Rattle.roster_cli.proofs.start.open_all.Goals as goal

pub returns-in-Err-clause-failed : goal.returns-in-Err-clause-failed
returns-in-Err-clause-failed g c =
    let l = c.loop-path in
    let path = c.path-item.result in
    inl (record {
      before = map string_bytes (take l.path-index c.args.paths.now);
      path = string_bytes path;
      after = map string_bytes (drop (l.path-index + 1) c.args.paths.now);
      paths_are = names_split string_bytes c.args.paths.now l.path-index path c.loop-path-test.true c.path-item.is;
      files = l.files.items;
      next = l.opener;
      opened = l.invariant.opened;
      error = c.in-Err.error;
      failed = record { shown = c.as_str.result; shows = c.as_str.ensures.value; called = c.in-Err.ensures };
      fault_is = record { memory = λ e. refl; other = search rules };
    })

pub returns-in-Err-2-clause-failed : goal.returns-in-Err-2-clause-failed
returns-in-Err-2-clause-failed g c =
    let l = c.loop-path in
    let path = c.path-item.result in
    inl (record {
      before = map string_bytes (take l.path-index c.args.paths.now);
      path = string_bytes path;
      after = map string_bytes (drop (l.path-index + 1) c.args.paths.now);
      paths_are = names_split string_bytes c.args.paths.now l.path-index path c.loop-path-test.true c.path-item.is;
      files = l.files.items;
      next = l.opener;
      opened = l.invariant.opened;
      error = c.in-Err-2.field-0;
      failed = record { shown = c.as_str.result; shows = c.as_str.ensures.value; called = c.in-Err-2.ensures };
      fault_is = record { memory = search rules; other = λ e. refl };
    })

pub loop-path-preserved : goal.loop-path-preserved
loop-path-preserved g c =
    let l = c.loop-path in
    let path = c.path-item.result in
    let inside = c.loop-path-test.true in
    record {
      callable = mut_next g.F.FnMut l.opener _ _ c.opener.new.self c.opener.new.self c.in-Ok.ensures refl l.invariant.callable;
      opened = subst (λ fs. OpensAll g.F.FnMut c.args.opener.now (map string_bytes (take (l.path-index + 1) c.args.paths.now)) fs c.opener.new.self) (sym c.in_ok-push-in-Ok.ensures.items)
          (subst (λ ps. OpensAll g.F.FnMut c.args.opener.now ps (l.files.items ++ c.in-Ok.file ∷ []) c.opener.new.self) (names_more string_bytes c.args.paths.now l.path-index path inside c.path-item.is)
          (opens_more g.F.FnMut c.args.opener.now (map string_bytes (take l.path-index c.args.paths.now)) l.files.items l.opener (string_bytes path) c.in-Ok.file c.opener.new.self l.invariant.opened
          (record { shown = c.as_str.result; shows = c.as_str.ensures.value; called = c.in-Ok.ensures })));
      count = omega (arith, l.invariant.count, c.in_ok-push-in-Ok.ensures.len);
      room = omega (arith, l.invariant.room, c.in_ok-push-in-Ok.ensures.capacity);
    }
