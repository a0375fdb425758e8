-- Worked examples, by the definitions that the calls' contracts use. Assumes nothing.
use Rattle.std.specs.Prelude.{◌≡◌, ℕ, true, List, [], ◌∷◌, Ok, Err}
use Rattle.paging.specs.declared.policy.Policy.TheVariants.{Dpmin}
use Rattle.paging.specs.declared.refusal.Refusal.TheVariants.{NoFrameCountWithin}
use Rattle.paging.specs.Frames.{is_frames}
use Rattle.pager.specs.Plans.{word}
use Rattle.recording.specs.Coding.{decoded}
use Rattle.evaluator.specs.Answers.{figures_answer, edge_answer, plan_of}
use Rattle.evaluator.specs.Histories.{load_string}
use Rattle.evaluator.specs.WorkingSets.{working_answer}

-- the example's recording, of the pages 1 2 3 4 1 2 5 1 2 3 4 5, and its string
abbrev pub recorded : List ℕ
recorded =
    0x10 ∷ 0x00 ∷ 0x0C ∷ 0x00 ∷ 0x10 ∷ 0x02 ∷ 0x00 ∷ 0x30 ∷ 0x04 ∷ 0x00 ∷ 0x10 ∷ 0x02 ∷ 0x00 ∷ 0x50 ∷ 0x01 ∷ 0x00 ∷ 0x20 ∷ 0x03 ∷ 0x00 ∷ 0x40 ∷ 0x05 ∷ []

abbrev pub S : List ℕ
S = 0 ∷ 1 ∷ 2 ∷ 3 ∷ 0 ∷ 1 ∷ 4 ∷ 0 ∷ 1 ∷ 2 ∷ 3 ∷ 4 ∷ []

-- a row of the listing of S: LRU's and MIN's faults, which are their pulls, and DPMIN's fault instants and pulls
pub record Row (f lru min dpmin pulled : ℕ) : Type 0 where
  pub by_lru : figures_answer 76 f S ≡ Ok (lru, lru)
  pub by_min : figures_answer 77 f S ≡ Ok (min, min)
  pub by_dpmin : figures_answer 68 f S ≡ Ok (dpmin, pulled)

-- the empty string: no faults and no pulls at every frame count, under every letter, and one frame is within the ceiling 0
pub record EmptyString : Type 0 where
  pub lru : (f : ℕ) → is_frames f ≡ true → figures_answer 76 f [] ≡ Ok (0, 0)
  pub min : (f : ℕ) → is_frames f ≡ true → figures_answer 77 f [] ≡ Ok (0, 0)
  pub dpmin : (f : ℕ) → is_frames f ≡ true → figures_answer 68 f [] ≡ Ok (0, 0)
  pub fifo : (f : ℕ) → is_frames f ≡ true → figures_answer 70 f [] ≡ Ok (0, 0)
  pub edges : (edge_answer 76 [] 0 ≡ Ok 1) × (edge_answer 77 [] 0 ≡ Ok 1) × (edge_answer 68 [] 0 ≡ Ok 1)

-- DPMIN's plan of S in 3 frames: place, kind (1 for a pull) and code of each move
abbrev pub moves_of_s : List ℕ
moves_of_s =
    word 1 1 0 ∷ word 1 1 1 ∷ word 1 1 2 ∷ word 4 0 2 ∷ word 4 1 3 ∷ word 7 0 3 ∷ word 7 1 4 ∷ word 10 0 0 ∷ word 10 0 1 ∷ word 10 1 2 ∷ word 10 1 3 ∷ []

pub record WorkedExamples : Type 0 where
  pub loaded : decoded 0 12 256 recorded ≡ Ok 12
  pub string : load_string 0 12 256 recorded ≡ S
  pub one : Row 1 12 12 12 12
  pub two : Row 2 12 9 6 11
  pub three : Row 3 10 7 4 7
  pub four : Row 4 8 6 3 6
  pub five : Row 5 5 5 1 5
  pub fifo : (figures_answer 70 3 S ≡ Ok (9, 9)) × (figures_answer 70 4 S ≡ Ok (10, 10))
  pub plan : plan_of Dpmin 3 S ≡ moves_of_s
  pub edges : (edge_answer 76 S 10 ≡ Ok 3) × (edge_answer 76 S 9 ≡ Ok 4) × (edge_answer 76 S 8 ≡ Ok 4) × (edge_answer 76 S 4 ≡ Err NoFrameCountWithin)
  pub empty : EmptyString
  pub window : working_answer 3 S ≡ Ok (10, 33)
