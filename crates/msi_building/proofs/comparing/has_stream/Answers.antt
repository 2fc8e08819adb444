use Rattle.std.proofs.Common.{◌∙◌, ap, sym}
use Rattle.std.proofs.lemmas.Bool.Decides.{Decides-eqb}
use Rattle.std.proofs.lemmas.Slice.Eq.{slice_eq-Decides}
use Rattle.std.specs.Prelude.{Ok}
use Rattle.cfb.specs.Views.{file_case_table}
use Rattle.msi.specs.Opened.{file_in}
use Rattle.msi_spec.specs.Streams.{stream_read}
use Rattle.msi_building.proofs.comparing.has_stream.Goals as goal

pub returns-clause-says : goal.returns-clause-says
returns-clause-says g c P h same = ap (stream_read (file_case_table (file_in c.args.built.now)) P) (sym c.deref.ensures) ∙ c.in_ok-found.ensures.answer P h ∙ ap Ok (sym c.into_bytes.ensures ∙ (slice_eq-Decides Decides-eqb _ _ _ c.eq.ensures).0 same)
