-- The two kinds of names: what a record stands for, and the record of a number. Assumes nothing.
use Rattle.std.specs.Prelude.{ℕ, ◌+◌, ◌*◌, ◌/◌, ◌%◌, cond, ◌&&◌, Ok, Err, Result, nat_lt}
use Rattle.paging.specs.declared.refusal.Refusal.{Refusal}
use Rattle.paging.specs.declared.refusal.Refusal.TheVariants.{NameTooLarge}
use Rattle.names.specs.declared.name.Page.{Page}
use Rattle.names.specs.declared.name.TaskPage.{TaskPage}

-- a bare page stands for its number modulo 4,096
abbrev pub page_bits : Page → ℕ
page_bits x = x.page % 4096

abbrev pub page_from : ℕ → Page
page_from n = record { page = n }

-- a task with a page stands for four bits of the task, and then twelve of the page
abbrev pub task_bits : TaskPage → ℕ
task_bits x = (x.task % 16) * 4096 + x.page % 4096

abbrev pub task_from : ℕ → TaskPage
task_from n = record { task = n / 4096; page = n % 4096 }

-- a name is made exactly where its numbers fit
abbrev pub page_made : ℕ → Result Page Refusal
page_made p = cond (nat_lt p 4096) (Ok (record { page = p })) (Err NameTooLarge)

abbrev pub task_made : ℕ → ℕ → Result TaskPage Refusal
task_made t p = cond (nat_lt t 16 && nat_lt p 4096) (Ok (record { task = t; page = p })) (Err NameTooLarge)
