use Rattle.std.proofs.Common.{◌≡◌, take}
use Rattle.std.specs.List.{AllByRecursion}
use Rattle.std.specs.Prelude.{string_bytes}
use Rattle.msi.specs.Opened.{OnlyReadsPackage, PackageHasContent}
use Rattle.msi_spec.specs.Package.{PackageContent}
use Rattle.msi_building.specs.Agreeing.{TableAgrees}
use Rattle.msi_building.proofs.agreeing.are_same_tables.Given as goal

-- both packages were only read, and agree so far
abbrev pub invariant-loop-name : goal.invariant-loop-name
invariant-loop-name l = record {
  reads : OnlyReadsPackage l.fn.one l.one;
  reads_other : OnlyReadsPackage l.fn.other l.other;
  same : (P Q : PackageContent) → PackageHasContent l.fn.one P → PackageHasContent l.fn.other Q → AllByRecursion (λ name. TableAgrees P Q (string_bytes name)) (take l.name-index l.names);
}
