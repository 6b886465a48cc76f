use Rattle.roster_bound.proofs.WholePoints.{first_same, points_bound}
use Rattle.roster_bound.proofs.laws.whole_points_have_one_bound.Goals as goal

pub returns-clause-points : goal.returns-clause-points
returns-clause-points c case from given scale w some = points_bound scale some case w from given

pub returns-clause-first : goal.returns-clause-first
returns-clause-first c case from given scale some = first_same scale some case from given
