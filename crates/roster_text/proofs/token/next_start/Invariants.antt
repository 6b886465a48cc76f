use Rattle.std.proofs.Common.{length, ◌-◌, ◌≡◌, ◌+◌, ◌≤◌, drop}
use Rattle.std.specs.List.{prefix_len}
use Rattle.roster_bundle.specs.Token.{is_separator, line_at}
use Rattle.roster_text.proofs.token.next_start.Given as goal

abbrev pub invariant-loop-at : goal.invariant-loop-at
invariant-loop-at l = record {
  in_text : l.at ≤ length l.text;
  on_line : l.line ≡ line_at l.text l.at;
  same_position : l.at + prefix_len is_separator (drop l.at l.text) ≡ l.fn.at + prefix_len is_separator (drop l.fn.at l.text);
}

abbrev pub decreases-loop-at : goal.decreases-loop-at
decreases-loop-at l = length l.text - l.at
