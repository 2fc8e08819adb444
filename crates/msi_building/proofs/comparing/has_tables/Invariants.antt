use Rattle.std.proofs.Common.{take}
use Rattle.std.specs.List.{AllByRecursion}
use Rattle.msi.specs.Opened.{OnlyReadsPackage, PackageHasContent}
use Rattle.msi_spec.specs.Package.{PackageContent}
use Rattle.msi_building.specs.Saying.{SaysTable}
use Rattle.msi_building.proofs.comparing.has_tables.Given as goal

-- the package was only read, and says the tables so far
abbrev pub invariant-loop-table : goal.invariant-loop-table
invariant-loop-table g l = record {
  reads : OnlyReadsPackage l.fn.built l.built;
  said : (P : PackageContent) → PackageHasContent l.fn.built P → AllByRecursion (SaysTable P) (take l.table-index l.said);
}
