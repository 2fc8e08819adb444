use Rattle.std.proofs.Common.{◌≡◌, take}
use Rattle.std.specs.List.{AllByRecursion}
use Rattle.std.specs.Prelude.{string_bytes}
use Rattle.msi.specs.Opened.{file_in, OnlyReadsPackage, PackageHasContent}
use Rattle.msi_spec.specs.Package.{PackageContent}
use Rattle.cfb.specs.Views.{file_case_table}
use Rattle.msi_spec.specs.Streams.{stream_read}
use Rattle.msi_building.proofs.agreeing.are_same_streams.Given as goal

-- both packages were only read, and agree so far
abbrev pub invariant-loop-name : goal.invariant-loop-name
invariant-loop-name l = record {
  reads : OnlyReadsPackage l.fn.one l.one;
  reads_other : OnlyReadsPackage l.fn.other l.other;
  same : (P Q : PackageContent) → PackageHasContent l.fn.one P → PackageHasContent l.fn.other Q → AllByRecursion (λ name. stream_read (file_case_table (file_in l.fn.other)) Q (string_bytes name) ≡ stream_read (file_case_table (file_in l.fn.one)) P (string_bytes name)) (take l.name-index l.names);
}
