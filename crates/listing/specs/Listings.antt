-- The listing: the text that a recording is answered with. Assumes nothing.
use Rattle.std.specs.Prelude.{ℕ, ◌+◌, min, max, Bool, cond, List, [], ◌∷◌, ◌++◌, map, length, Ok, Err, codes, Result, ◌==◌, nat_le}
use Rattle.std.specs.List.{range_with_len}
use Rattle.paging.specs.declared.policy.Policy.TheVariants.{Lru, Min, Dpmin}
use Rattle.paging.specs.Policies.{instants, pulls_of}
use Rattle.paging.specs.Refusals.{number}
use Rattle.recording.specs.declared.fault.Layer.{Layer}
use Rattle.recording.specs.declared.fault.Layer.TheVariants.{Bytes, Names}
use Rattle.recording.specs.declared.fault.LoadFault.{LoadFault}
use Rattle.recording.specs.Bits.{bit_of, number_at}
use Rattle.recording.specs.Coding.{decoded}
use Rattle.evaluator.specs.Histories.{load_string}
use Rattle.evaluator.specs.Strings.{page_count}
use Rattle.listing.specs.declared.text.Row.{Row}
use Rattle.listing.specs.Texts.{field, row_text}

abbrev pub header : List ℕ
header = codes "frames,lru,min,dpmin,pulls\n"

-- the lines of some rows, one after another
unfoldable pub lines : List Row → List ℕ
lines [] = []
lines (r ∷ rs) = row_text r ++ lines rs

abbrev pub table_text : List Row → List ℕ
table_text rs = header ++ lines rs

-- what the policies make of a string in f frames, and that for the frame counts 1 to n
abbrev pub row_of : List ℕ → ℕ → Row
row_of s f =
    record { frames = f; lru = instants Lru f s; min = instants Min f s; dpmin = instants Dpmin f s; pulls = pulls_of Dpmin f s }

abbrev pub rows_of : List ℕ → ℕ → List Row
rows_of s n = map (λ k. row_of s (k + 1)) (range_with_len 0 n)

-- as many rows as the string has different pages, at least 1 and at most 64
abbrev pub row_count : List ℕ → ℕ
row_count s = max 1 (min 64 (page_count s))

abbrev pub figures_text : List ℕ → List ℕ
figures_text s = table_text (rows_of s (row_count s))

-- the line of a refused load: the number, the layer and the place
abbrev pub layer_text : Layer → List ℕ
layer_text Bytes = codes "bytes,"
layer_text Names = codes "names,"

abbrev pub fault_text : LoadFault → List ℕ
fault_text e = codes "refused," ++ (field (number e.refusal) 44 ++ (layer_text e.layer ++ field e.place 10))

-- whether the kind that a recording gives is that of tasks with pages
abbrev pub of_tasks : List ℕ → Bool
of_tasks bytes = number_at (bit_of 8 bytes) 4 2 == 1

-- loading a recording into a list of its own kind with 256 places: the answer, and the string
abbrev pub own_load : List ℕ → Result ℕ LoadFault
own_load bytes = cond (of_tasks bytes) (decoded 1 16 256 bytes) (decoded 0 12 256 bytes)

abbrev pub own_string : List ℕ → List ℕ
own_string bytes = cond (of_tasks bytes) (load_string 1 16 256 bytes) (load_string 0 12 256 bytes)

-- the figures of the string that was loaded, or the line of the refusal
abbrev pub answer_text : Result ℕ LoadFault → List ℕ → List ℕ
answer_text (Ok n) s = figures_text s
answer_text (Err e) s = fault_text e

-- the listing of a recording
abbrev pub listing_text : List ℕ → List ℕ
listing_text bytes = answer_text (own_load bytes) (own_string bytes)

-- how many bytes of a text are written into a memory: all, or none where it does not fit
abbrev pub count_written : List ℕ → List ℕ → ℕ
count_written text out = cond (nat_le (length text) (length out)) (length text) 0
