-- What recordings guarantee, for every kind of name. Assumes nothing.
use Rattle.std.specs.Prelude.{◌≡◌, ℕ, suc, ◌^◌, ◌<◌, ◌≤◌, true, List, length, take, Ok, Err, slice_index}
use Rattle.paging.specs.Pages.{codes, size, has}
use Rattle.names.specs.Lists.{place_in}
use Rattle.recording.specs.Reading.{laid_out}
use Rattle.recording.specs.Coding.{codes_of, names_of, names_in, different}
use Rattle.recording.specs.Writing.{recording, named_by, all_named}

-- each number of a row is below n
abbrev pub Below : ℕ → List ℕ → Type 0
Below n xs = (i : ℕ) → i < length xs → slice_index xs i < n

-- a row of names that a recording can hold
abbrev pub Row : ℕ → List ℕ → Type 0
Row width ns = (length ns ≤ 4096) × Below (2 ^ width) ns

-- looking up a listed name answers its own place, so that no name is listed twice
abbrev pub Different : List ℕ → Type 0
Different ns = (i : ℕ) → i < length ns → place_in ns (slice_index ns i) ≡ i

-- the codes of a row of names, over a list of different names: each code stands for its name
pub record Coded (limit : ℕ) (ms cs : List ℕ) : Type 0 where
  pub different : Different (names_of limit ms)
  pub within : length (names_of limit ms) ≤ limit
  pub named : all_named (length (names_of limit ms)) cs ≡ true
  pub back : named_by (names_of limit ms) cs ≡ ms

-- what an accepted row of names counts: each has a code, the list has the different ones, and the codes are as many different pages
pub record Counted (limit : ℕ) (ms cs : List ℕ) : Type 0 where
  pub references : length cs ≡ length ms
  pub names : length (names_of limit ms) ≡ different ms
  pub pages : limit ≤ codes → size (has cs) ≡ different ms

-- a row of names is refused at the first name that is one more, among the different ones, than the limit
pub record RefusedAt (limit : ℕ) (ms : List ℕ) (p : ℕ) : Type 0 where
  pub before : ℕ
  pub place : p ≡ suc before
  pub within : before < length ms
  pub full : different (take before ms) ≡ limit
  pub over : different (take (suc before) ms) ≡ suc limit

-- a row of names is accepted exactly if it has no more different names than the limit
pub record Fitting (limit : ℕ) (ms : List ℕ) : Type 0 where
  pub accepted : different ms ≤ limit → (cs : List ℕ) × (codes_of limit ms ≡ Ok cs)
  pub only : (cs : List ℕ) → codes_of limit ms ≡ Ok cs → different ms ≤ limit
  pub refused : (p : ℕ) → codes_of limit ms ≡ Err p → RefusedAt limit ms p

-- bytes pass the questions about the layout exactly if they are the recording of a row of names
pub record Laid (kind width : ℕ) : Type 0 where
  pub only : (bytes : List ℕ) (n : ℕ) → Below 256 bytes → laid_out kind width bytes ≡ Ok n → Row width (names_in width bytes n) × (length (names_in width bytes n) ≡ n) × (recording kind width (names_in width bytes n) ≡ bytes)
  pub all : (ns : List ℕ) → Row width ns → (laid_out kind width (recording kind width ns) ≡ Ok (length ns)) × (names_in width (recording kind width ns) (length ns) ≡ ns)
  pub bytes : (ns : List ℕ) → Below 256 (recording kind width ns)

-- what was loaded is stored as the same bytes
abbrev pub StoredAsLoaded : ℕ → ℕ → Type 0
StoredAsLoaded kind width =
    (bytes : List ℕ) (n limit : ℕ) (cs : List ℕ) → Below 256 bytes → laid_out kind width bytes ≡ Ok n →
    codes_of limit (names_in width bytes n) ≡ Ok cs → recording kind width (named_by (names_of limit (names_in width bytes n)) cs) ≡ bytes

-- what was stored is loaded as the same row of names
abbrev pub LoadedAsStored : ℕ → ℕ → Type 0
LoadedAsStored kind width =
    (ns cs : List ℕ) (limit : ℕ) (ds : List ℕ) → length cs ≤ 4096 → Below (2 ^ width) ns → all_named (length ns) cs ≡ true →
    codes_of limit (names_in width (recording kind width (named_by ns cs)) (length cs)) ≡ Ok ds →
    named_by (names_of limit (names_in width (recording kind width (named_by ns cs)) (length cs))) ds ≡ named_by ns cs

-- all of it, for every kind of name
pub record RecordingsStand : Type 0 where
  pub laid : (kind width : ℕ) → kind < 4 → 1 ≤ width → Laid kind width
  pub coded : (limit : ℕ) (ms cs : List ℕ) → codes_of limit ms ≡ Ok cs → Coded limit ms cs
  pub counted : (limit : ℕ) (ms cs : List ℕ) → codes_of limit ms ≡ Ok cs → Counted limit ms cs
  pub fitting : (limit : ℕ) (ms : List ℕ) → Fitting limit ms
  pub stored : (kind width : ℕ) → kind < 4 → 1 ≤ width → StoredAsLoaded kind width
  pub loaded : (kind width : ℕ) → kind < 4 → 1 ≤ width → LoadedAsStored kind width
