-- The limits and the sizes of sheet and buffers; src/lib.rt has constants of the same names. Assumes nothing: these are definitions.
use Rattle.std.specs.Prelude.{ℕ, ◌+◌, ◌*◌}

-- ---- the sheet: its lines, and the bytes of one and of all
abbrev pub most_lines : ℕ
most_lines = 2000

abbrev pub line_length : ℕ
line_length = 29

abbrev pub sheet_bytes : ℕ
sheet_bytes = line_length * most_lines

-- the words of what a line says, kind, value and count, and those of all lines
abbrev pub triple_words : ℕ
triple_words = 3

abbrev pub plan_words : ℕ
plan_words = triple_words * most_lines

-- names are 1 to this
abbrev pub highest_name : ℕ
highest_name = 9999

-- ---- limits
abbrev pub highest_ceiling : ℕ
highest_ceiling = 10000

-- entries on the board
abbrev pub most_entries : ℕ
most_entries = 512

-- type nodes on the board, those of all solutions, and so those of one type
abbrev pub most_nodes : ℕ
most_nodes = 4096

-- fresh numbers
abbrev pub most_numbers : ℕ
most_numbers = 1000

-- nodes of one written-out type: the limit that a caller may pick at most, and document 01's, which the programs pick
abbrev pub highest_limit : ℕ
highest_limit = most_nodes

abbrev pub usual_limit : ℕ
usual_limit = 1024

-- ---- words of a type, two a node
abbrev pub type_words : ℕ
type_words = 2 * most_nodes

-- ---- the board: so many words an entry, and the nodes from the base on
abbrev pub board_stride : ℕ
board_stride = 8

abbrev pub board_base : ℕ
board_base = board_stride * most_entries

abbrev pub board_size : ℕ
board_size = board_base + type_words

-- ---- the book: so many words a number, and the nodes from the base on
abbrev pub book_stride : ℕ
book_stride = 3

abbrev pub book_base : ℕ
book_base = book_stride * most_numbers

abbrev pub book_size : ℕ
book_size = book_base + type_words

-- ---- the report: so many words a node of the limit, two written-out types of two words a node; and the programs' report
abbrev pub report_stride : ℕ
report_stride = 4

abbrev pub usual_report : ℕ
usual_report = report_stride * usual_limit
