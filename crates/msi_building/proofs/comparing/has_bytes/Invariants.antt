use Rattle.std.proofs.Common.{◌≡◌, take}
use Rattle.std.specs.List.{AllByRecursion}
use Rattle.std.specs.Prelude.{Ok, string_bytes}
use Rattle.cfb.specs.Views.{file_case_table}
use Rattle.msi.specs.Opened.{file_in, OnlyReadsPackage, PackageHasContent}
use Rattle.msi_spec.specs.Package.{PackageContent}
use Rattle.msi_spec.specs.Streams.{stream_read}
use Rattle.msi_building.proofs.comparing.has_bytes.Given as goal

-- the package was only read, and has the bytes of the streams so far
abbrev pub invariant-loop-stream : goal.invariant-loop-stream
invariant-loop-stream g l = record {
  reads : OnlyReadsPackage l.fn.built l.built;
  said : (P : PackageContent) → PackageHasContent l.fn.built P → AllByRecursion (λ s. stream_read (file_case_table (file_in l.fn.built)) P (string_bytes s.name) ≡ Ok s.bytes.items) (take l.stream-index l.said);
}
