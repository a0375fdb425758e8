-- The worked examples. Assumes nothing.
use Rattle.std.proofs.Common.{◌≡◌, Ok, Err, refl}
use Rattle.paging.specs.declared.policy.Policy.TheVariants.{Dpmin}
use Rattle.paging.specs.declared.refusal.Refusal.TheVariants.{NoFrameCountWithin}
use Rattle.paging.specs.Pages.{total}
use Rattle.paging.specs.Schedules.{next}
use Rattle.paging.specs.Rankings.{hindmost}
use Rattle.pager.specs.Plans.{words, plan_words}
use Rattle.ranking.specs.Edges.{edge_from}
use Rattle.recording.specs.Bits.{number_at, numbers_at}
use Rattle.recording.specs.Coding.{coded, decoded}
use Rattle.evaluator.specs.Answers.{figures_answer, edge_answer, plan_of}
use Rattle.evaluator.specs.Histories.{load_string}
use Rattle.evaluator.specs.WorkingSets.{working_answer}
use Rattle.evaluator.specs.Examples.{recorded, S, Row, EmptyString, moves_of_s, WorkedExamples}

loaded_is : decoded 0 12 256 recorded ≡ Ok 12
unfolding number_at numbers_at coded
loaded_is = refl

string_is : load_string 0 12 256 recorded ≡ S
unfolding number_at numbers_at coded
string_is = refl

one : Row 1 12 12 12 12
unfolding total next hindmost
one = record { by_lru = refl; by_min = refl; by_dpmin = refl }

two : Row 2 12 9 6 11
unfolding total next hindmost
two = record { by_lru = refl; by_min = refl; by_dpmin = refl }

three : Row 3 10 7 4 7
unfolding total next hindmost
three = record { by_lru = refl; by_min = refl; by_dpmin = refl }

four : Row 4 8 6 3 6
unfolding total next hindmost
four = record { by_lru = refl; by_min = refl; by_dpmin = refl }

five : Row 5 5 5 1 5
unfolding total next hindmost
five = record { by_lru = refl; by_min = refl; by_dpmin = refl }

fifo_is : (figures_answer 70 3 S ≡ Ok (9, 9)) × (figures_answer 70 4 S ≡ Ok (10, 10))
unfolding total
fifo_is = (refl, refl)

plan_is : plan_of Dpmin 3 S ≡ moves_of_s
unfolding total next words plan_words
plan_is = refl

edges_are : (edge_answer 76 S 10 ≡ Ok 3) × (edge_answer 76 S 9 ≡ Ok 4) × (edge_answer 76 S 8 ≡ Ok 4) × (edge_answer 76 S 4 ≡ Err NoFrameCountWithin)
unfolding total next hindmost edge_from
edges_are = (refl, refl, refl, refl)

empty_is : EmptyString
unfolding total edge_from
empty_is =
    record {
      lru = λ f e. rw e;
      min = λ f e. rw e;
      dpmin = λ f e. rw e;
      fifo = λ f e. rw e;
      edges = (refl, refl, refl);
    }

window_is : working_answer 3 S ≡ Ok (10, 33)
unfolding total
window_is = refl

pub worked_examples : WorkedExamples
worked_examples =
    record {
      loaded = loaded_is;
      string = string_is;
      one = one;
      two = two;
      three = three;
      four = four;
      five = five;
      fifo = fifo_is;
      plan = plan_is;
      edges = edges_are;
      empty = empty_is;
      window = window_is;
    }
