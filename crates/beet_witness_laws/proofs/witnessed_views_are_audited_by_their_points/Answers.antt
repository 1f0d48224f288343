use Rattle.beet_witness_laws.proofs.PointAudits.{answers-points, audit-alike, of-points, right-curves}
use Rattle.beet_witness_laws.proofs.witnessed_views_are_audited_by_their_points.Goals as goal

pub returns-clause-finds : goal.returns-clause-finds
returns-clause-finds c = λ grid bidders words found enough. audit-alike grid bidders words enough found

pub returns-clause-accepted : goal.returns-clause-accepted
returns-clause-accepted c = λ grid bidders words can. right-curves grid bidders words can

pub returns-clause-refused : goal.returns-clause-refused
returns-clause-refused c = λ grid bidders fault found. of-points grid bidders fault found

pub returns-clause-answer : goal.returns-clause-answer
returns-clause-answer c = λ grid bidders words answer can tells. answers-points grid bidders words can answer tells
