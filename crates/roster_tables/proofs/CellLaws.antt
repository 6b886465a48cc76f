-- What a table keeps, and how much is counted.
use Rattle.std.proofs.Common.{◌≡◌, ◌∙◌, ◌+◌, ◌*◌, ◌<◌, ◌≤◌, ℕ, suc, arith, refl, List}
use Rattle.std.proofs.Math.Nat.{suc-mul}
use Rattle.std.proofs.lemmas.Nat.{mul-le}
use Rattle.roster_lanes.specs.Lanes.{SameOutside}
use Rattle.roster_tables.specs.declared.day.OpenDay.{OpenDay}
use Rattle.roster_tables.specs.OpenDays.{KeepTables, KeepsRest}

pub outside_then : (first end : ℕ) (old cells new : List ℕ) → SameOutside first end old cells → SameOutside first end cells new → SameOutside first end old new
outside_then first end old cells new same then = record {
  before = λ place h. then.before place h ∙ same.before place h;
  after = λ place h. then.after place h ∙ same.after place h;
}

pub outside_wider : (first end from to : ℕ) (old new : List ℕ) → from ≤ first → end ≤ to → SameOutside first end old new → SameOutside from to old new
outside_wider first end from to old new low high same = record {
  before = λ place h. same.before place (omega (arith, h, low));
  after = λ place h. same.after place (omega (arith, h, high));
}

-- ---- one table, with its length, and both tables of a day

pub rest_same : (first places : ℕ) (cells : List ℕ) → KeepsRest first places cells cells
rest_same first places cells = record { others = record { before = λ i below. refl; after = λ i from. refl }; length_stays = refl }

pub rest_then : {first places : ℕ} {old cells new : List ℕ} → KeepsRest first places old cells → KeepsRest first places cells new → KeepsRest first places old new
rest_then {first} {places} {old} {cells} {new} same then = record { others = outside_then first (first + places) old cells new same.others then.others; length_stays = then.length_stays ∙ same.length_stays }

pub rest_wider : {first places : ℕ} {old new : List ℕ} → KeepsRest first places old new → (from more : ℕ) → from ≤ first → first + places ≤ from + more → KeepsRest from more old new
rest_wider {first} {places} {old} {new} same from more low high = record { others = outside_wider first (first + places) from (from + more) old new low high same.others; length_stays = same.length_stays }

pub tables_same : (day : OpenDay) (code places : ℕ) (labels pointers : List ℕ) → KeepTables day code places labels labels pointers pointers
tables_same day code places labels pointers = record { of_labels = rest_same code places labels; of_pointers = rest_same (day.first + code) places pointers }

pub tables_then : {day : OpenDay} {code places : ℕ} {labels_old labels_mid labels pointers_old pointers_mid pointers : List ℕ} → KeepTables day code places labels_old labels_mid pointers_old pointers_mid → KeepTables day code places labels_mid labels pointers_mid pointers
    → KeepTables day code places labels_old labels pointers_old pointers
tables_then same then = record { of_labels = rest_then same.of_labels then.of_labels; of_pointers = rest_then same.of_pointers then.of_pointers }

pub tables_wider : {day : OpenDay} {code places : ℕ} {labels_old labels pointers_old pointers : List ℕ} → KeepTables day code places labels_old labels pointers_old pointers → (from more : ℕ) → from ≤ code → code + places ≤ from + more → KeepTables day from more labels_old labels pointers_old pointers
tables_wider {day} same from more low high = record {
  of_labels = rest_wider same.of_labels from more low high;
  of_pointers = rest_wider same.of_pointers (day.first + from) more (omega (arith, low)) (omega (arith, high));
}

-- ---- how much is counted, that many for each cell

pub room_for_more : (code total size initial counted most : ℕ) → code < total → counted ≡ initial + code * size → initial + total * size ≤ most → counted + size ≤ most
room_for_more code total size initial counted most below is room =
    let more : suc code * size ≤ total * size = mul-le (suc code) size total size (omega (arith, below)) (omega arith) in
    omega (arith, is, room, suc-mul code size, more)
