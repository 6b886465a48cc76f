use Rattle.std.proofs.Common.{◌<◌, ap, arith, refl, rules}
use Rattle.roster_instance.specs.Meaning.{nurse_count}
use Rattle.roster_polish.proofs.Steps.{search_fits_meter, spent}
use Rattle.roster_polish.proofs.kick.kick_one.Goals as goal
use Rattle.roster_polish.proofs.kick.kick_one.Goals.{After-as_slice}

inside : (g : _) (c : After-as_slice g) → c.below-nurse.result < nurse_count c.args.held.now.case
inside g c = omega (arith, c.below-nurse.ensures, c.nurses.ensures.count, ap nurse_count c.case-2.ensures)

pub kick_nurse-requires-clause-room : goal.kick_nurse-requires-clause-room
kick_nurse-requires-clause-room g c =
    search_fits_meter c.args.held.now.case c.below-nurse.result c.args.meter.now c.args.kicking.now.searches.left (inside g (goal.at.kick_nurse-requires-clause-room g c).After-as_slice) c.requires.left 18446744073709551615 c.requires.able.room

pub returns : goal.returns
returns g c =
    let inside = inside g (goal.at.returns g c).After-as_slice in
    record {
      kicked = record {
        case = c.kick_nurse.ensures.case;
        kept = refl;
        frozen = c.kick_nurse.ensures.frozen;
        spends = spent c.args.held.now.case c.below-nurse.result c.args.meter.now c.args.kicking.now.searches.left inside c.requires.left c.kick_nurse.new.meter _ refl c.kick_nurse.ensures.counted;
        fits = search rules;
      };
    }
