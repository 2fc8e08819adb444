-- A package that is only read, twice.
use Rattle.std.proofs.Common.{◌∙◌}
use Rattle.cfb_medium.specs.declared.medium.ReadMedium.{Ghosts}
use Rattle.msi.specs.Opened.{file_in, OnlyReadsPackage}
use Rattle.msi.specs.declared.package.Package.{Package}
use Rattle.msi_stored.proofs.StoredLaws.{file_then}

pub rests_then : {F : Type 0} {g : Ghosts F} (a b c : Package F g) → OnlyReadsPackage a b → OnlyReadsPackage b c → OnlyReadsPackage a c
rests_then a b c one two = record {
  file = file_then (file_in a) (file_in b) (file_in c) one.file two.file;
  tables = two.tables ∙ one.tables;
  kind = two.kind ∙ one.kind;
  pool = two.pool ∙ one.pool;
  summary = two.summary ∙ one.summary;
  sound = two.sound ∙ one.sound;
  written = two.written ∙ one.written;
}
