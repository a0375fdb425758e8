-- The orders of LRU's and MIN's rankings keep the laws of an order. Assumes nothing.
use Rattle.std.proofs.Common.{ℕ, [], ◌∷◌, arith}
use Rattle.std.proofs.lemmas.Bool.Decides.{nat_tests}
use Rattle.paging.specs.Rankings.{Order, Orders, later, nearer, last_told, next_told, noted}

pub later_order : (k : ℕ → ℕ) → Order (later k)
later_order k =
    record {
      never = λ a _. grind (arith, nat_tests);
      one = λ a b _ _ ne. grind (arith, nat_tests);
      chain = λ a b c _ _ _ p q. grind (arith, nat_tests);
    }

pub nearer_order : (k : ℕ → ℕ) → Order (nearer k)
nearer_order k =
    record {
      never = λ a _. grind (arith, nat_tests);
      one = λ a b _ _ ne. grind (arith, nat_tests);
      chain = λ a b c _ _ _ p q. grind (arith, nat_tests);
    }

-- LRU's ranking keeps its laws, whatever it is told
pub last_orders : (k : ℕ → ℕ) → Orders (last_told k)
last_orders k [] = later_order k
last_orders k (t ∷ ts) = last_orders (noted k t.code t.place) ts

-- and so does MIN's
pub next_orders : (k : ℕ → ℕ) → Orders (next_told k)
next_orders k [] = nearer_order k
next_orders k (t ∷ ts) = next_orders (noted k t.code t.next) ts
