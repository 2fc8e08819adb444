use Rattle.cfb.specs.Writing.{file_under, id_of}
use Rattle.cfb.proofs.Standing.{on_ok}
use Rattle.cfb.proofs.Written.{owners_written}
use Rattle.cfb.proofs.written_stream.Stream.close.Goals as goal

pub returns-clause-closed : goal.returns-clause-closed
returns-clause-closed g c = on_ok c.check_live.result (λ live path tree content s. owners_written (file_under c.args.self) path tree (id_of c.args.self) content s.written) c.check_live.ensures.not_failed
