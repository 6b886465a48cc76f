-- The files so far are opened, and there is capacity for all.
use Rattle.std.proofs.Common.{◌≡◌, ◌≤◌, length, map, string_bytes, take, vec_capacity, vec_len}
use denote.Param.Always.{always_mut}
use Rattle.roster_cli.specs.Start.{OpensAll}
use Rattle.roster_cli.proofs.start.open_all.Given as goal

abbrev pub invariant-loop-path : goal.invariant-loop-path
invariant-loop-path g l = record {
  callable : always_mut g.F.FnMut l.opener;
  opened : OpensAll g.F.FnMut l.fn.opener (map string_bytes (take l.path-index l.paths)) l.files.items l.opener;
  count : vec_len l.files ≡ l.path-index;
  room : length l.paths ≤ vec_capacity l.files;
}
