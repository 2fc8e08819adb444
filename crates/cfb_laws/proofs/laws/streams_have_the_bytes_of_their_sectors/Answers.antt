use Rattle.cfb.proofs.StreamBytes.{bytes_are, lies_where}
use Rattle.cfb_laws.proofs.laws.streams_have_the_bytes_of_their_sectors.Goals as goal

pub returns-clause-bytes : goal.returns-clause-bytes
returns-clause-bytes g c = λ it l shows memory e links lies level. bytes_are it l shows memory e links lies level

pub returns-clause-lies : goal.returns-clause-lies
returns-clause-lies g c = λ it l shows memory e content has. lies_where it l shows memory e content has
