use Rattle.std.proofs.Common.{◌≡◌, ◌≤◌, ◌-◌, false, length}
use Rattle.cfb_chain_io.specs.ChainEffects.{KeepsFileInvariants}
use Rattle.cfb_fat.specs.Tables.{has_failed_here}
use Rattle.cfb_mini.specs.Views.{allocator_of}
use Rattle.cfb.specs.Pieces.{FillsFrom, OnlyReadsSource}
use Rattle.cfb.specs.Views.{file_case_table, mini_of, most_ahead_of, sound_of, validation_of}
use Rattle.cfb.proofs.compound_file.CompoundFile.fill_bytes.Given as goal

abbrev pub invariant-fill : goal.invariant-fill
invariant-fill g l = record {
  most : l.at ≤ l.len;
  wide : length l.piece ≡ 4096;
  live : has_failed_here (allocator_of (mini_of l.self)) ≡ false;
  rests : OnlyReadsSource g.S.ReadMedium l.fn.source l.source;
  goes : KeepsFileInvariants {g = g.F.ReadMedium} (allocator_of (mini_of l.fn.self)) (allocator_of (mini_of l.self));
  filled : FillsFrom g.S.ReadMedium {g = g.F.ReadMedium} l.fn.source l.len l.at l.id l.fn.self l.self;
  letters : file_case_table {g = g.F.ReadMedium} l.self ≡ file_case_table {g = g.F.ReadMedium} l.fn.self;
  sound : sound_of {g = g.F.ReadMedium} l.self ≡ sound_of {g = g.F.ReadMedium} l.fn.self;
  validation : validation_of {g = g.F.ReadMedium} l.self ≡ validation_of {g = g.F.ReadMedium} l.fn.self;
  ahead : most_ahead_of {g = g.F.ReadMedium} l.self ≡ most_ahead_of {g = g.F.ReadMedium} l.fn.self;
}

abbrev pub decreases-fill : goal.decreases-fill
decreases-fill g l = l.len - l.at
