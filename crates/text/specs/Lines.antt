-- Lines and their bytes. A line is one form in brackets, one blank between items, and a newline.

use Rattle.std.specs.Prelude.{ℕ, List, ◌++◌, codes, decimal}
use Rattle.stream.specs.declared.Class.{Class}
use Rattle.stream.specs.declared.Class.TheVariants.{Critical, Background}
use Rattle.stream.specs.declared.Row.{Row}
use Rattle.text.specs.declared.line.Line.{Line}
use Rattle.text.specs.declared.line.Line.TheVariants.{Sporadic, Raster, Go}
use Rattle.text.specs.Words.{Form, Small, numbered}

abbrev pub class_letter : Class → List ℕ
class_letter Critical = codes "H"
class_letter Background = codes "L"

-- H (1 2) (3 4) 5, and what closes it
abbrev pub row_bytes : List ℕ → Row → List ℕ
row_bytes close r = class_letter r.class ++ (codes " (" ++ (decimal r.budget ++ (codes " " ++ (decimal r.certain ++ (codes ") (" ++ (decimal r.short ++ (codes " " ++ (decimal r.deadline ++ (codes ") " ++ (decimal r.gap ++ close))))))))))

-- (S H (1 2) (3 4) 5), after its first bracket
abbrev pub sporadic_bytes : Row → List ℕ
sporadic_bytes r = codes "S " ++ row_bytes (codes ")\n") r

-- H (1 2) (3 4) 5 0), a row with its phase
abbrev pub phased_bytes : Row × ℕ → List ℕ
phased_bytes v = row_bytes (codes " ") v.0 ++ (decimal v.1 ++ codes ")\n")

-- (R H (1 2) (3 4) 5 0), after its first bracket
abbrev pub raster_bytes : Row × ℕ → List ℕ
raster_bytes v = codes "R " ++ phased_bytes v

-- (go 7), after its first bracket
abbrev pub moment_bytes : ℕ → List ℕ
moment_bytes moment = numbered (codes "go ") moment

-- The bytes of a line after its first bracket.
abbrev pub item_bytes : Line → List ℕ
item_bytes (Sporadic row) = sporadic_bytes row
item_bytes (Raster row phase) = raster_bytes (row, phase)
item_bytes (Go moment) = moment_bytes moment

-- The bytes of a line, with its newline.
abbrev pub render : Line → List ℕ
render line = codes "(" ++ item_bytes line

abbrev pub SmallRow : Row → Type 0
SmallRow r = Small r.budget × Small r.certain × Small r.short × Small r.deadline × Small r.gap

abbrev pub SmallPhased : Row × ℕ → Type 0
SmallPhased v = SmallRow v.0 × Small v.1

-- Each number has at most 13 digits.
abbrev pub Valid : Line → Type 0
Valid (Sporadic row) = SmallRow row
Valid (Raster row phase) = SmallPhased (row, phase)
Valid (Go moment) = Small moment

-- The form whose words are the lines.
abbrev pub LineForm : List ℕ → Type 0
LineForm = Form render Valid
