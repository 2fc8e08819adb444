-- What a code page is called.
use Rattle.std.specs.Prelude.{ℕ, List, codes}
use Rattle.msi_texts.specs.declared.codepage.CodePage.{CodePage}
use Rattle.msi_texts.specs.declared.codepage.CodePage.TheVariants as page

abbrev pub page_name : CodePage → List ℕ
page_name page.Windows932 = codes "Windows Japanese Shift JIS"
page_name page.Windows936 = codes "Windows Chinese (simplified) GBK"
page_name page.Windows949 = codes "Windows Korean Unified Hangul Code"
page_name page.Windows950 = codes "Windows Chinese (traditional) Big5"
page_name page.Windows951 = codes "Windows Chinese (traditional) Big5-HKSCS"
page_name page.Windows1250 = codes "Windows Latin 2"
page_name page.Windows1251 = codes "Windows Cyrillic"
page_name page.Windows1252 = codes "Windows Latin 1"
page_name page.Windows1253 = codes "Windows Greek"
page_name page.Windows1254 = codes "Windows Turkish"
page_name page.Windows1255 = codes "Windows Hebrew"
page_name page.Windows1256 = codes "Windows Arabic"
page_name page.Windows1257 = codes "Windows Baltic"
page_name page.Windows1258 = codes "Windows Vietnamese"
page_name page.MacintoshRoman = codes "Mac OS Roman"
page_name page.MacintoshCyrillic = codes "Macintosh Cyrillic"
page_name page.UsAscii = codes "US-ASCII"
page_name page.Iso88591 = codes "ISO Latin 1"
page_name page.Iso88592 = codes "ISO Latin 2"
page_name page.Iso88593 = codes "ISO Latin 3"
page_name page.Iso88594 = codes "ISO Latin 4"
page_name page.Iso88595 = codes "ISO Latin/Cyrillic"
page_name page.Iso88596 = codes "ISO Latin/Arabic"
page_name page.Iso88597 = codes "ISO Latin/Greek"
page_name page.Iso88598 = codes "ISO Latin/Hebrew"
page_name page.Utf8 = codes "UTF-8"
