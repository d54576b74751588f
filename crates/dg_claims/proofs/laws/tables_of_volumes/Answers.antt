use Rattle.std.proofs.Common.{sym}
use Rattle.dg_claims.proofs.MetadataLaws.{table_accepted, table_claims, table_geometry, table_leveled, table_refused}
use Rattle.dg_claims.proofs.laws.tables_of_volumes.Goals as goal

pub returns-clause-accepted : goal.returns-clause-accepted
returns-clause-accepted c = λ l n v table g is. table_accepted l n v table g (sym is)

pub returns-clause-refused : goal.returns-clause-refused
returns-clause-refused c = λ l n v table bad is. table_refused l n v table bad (sym is)

pub returns-clause-claims : goal.returns-clause-claims
returns-clause-claims c = table_claims

pub returns-clause-geometry : goal.returns-clause-geometry
returns-clause-geometry c = table_geometry

pub returns-clause-leveled : goal.returns-clause-leveled
returns-clause-leveled c = table_leveled
