-- Where the header's numbers stand that layers above may change ([MS-CFB] 2.2).
use Rattle.std.specs.Prelude.{ℕ}
use Rattle.cfb_fat.specs.declared.header.HeaderWord.{HeaderWord}
use Rattle.cfb_fat.specs.declared.header.HeaderWord.TheVariants.{DirectorySectors, FirstDirectorySector, FirstMiniFatSector, MiniFatSectors}

abbrev pub word_place : HeaderWord → ℕ
word_place DirectorySectors = 40
word_place FirstDirectorySector = 48
word_place FirstMiniFatSector = 60
word_place MiniFatSectors = 64
