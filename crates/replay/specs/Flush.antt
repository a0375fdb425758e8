-- A pager that at each fault holds the referenced page alone. Assumes nothing.
use Rattle.std.specs.Prelude.{ℕ, cond, List, [], ◌∷◌}
use Rattle.paging.specs.Pages.{Pages, nothing, with_page}

-- what is held after a row is served
abbrev pub flush_step : List ℕ → Pages → Pages
flush_step [] M = M
flush_step (x ∷ xs) M = cond (M x) M (with_page x nothing)
