-- What the pager of a policy stands for. Assumes nothing.
use Rattle.std.specs.Prelude.{ℕ}
use Rattle.paging.specs.Models.{PagerModel, Keeps}
use Rattle.paging.specs.Frames.{frames_of}
use Rattle.paging.specs.Sets.{pages}
use Rattle.ranking.specs.Tables.{last_order, next_order}
use Rattle.pagers.specs.Laws.{ranked_law, dpmin_law, fifo_law}
use Rattle.pagers.specs.Pagers.{fifo_model, fifo_room, dpmin_model, dpmin_room, ranked_model}
use Rattle.pagers.specs.declared.policy.PolicyPager.{PolicyPager}
use Rattle.pagers.specs.declared.policy.PolicyPager.TheVariants.{Lru, Min, Dpmin, Fifo}

-- each stands for what its own pager stands for
abbrev pub policy_model : PolicyPager → PagerModel
policy_model (Lru p) = ranked_model (last_order p.ranking) (frames_of p.held.frames) p.serves (pages p.held.set)
policy_model (Min p) = ranked_model (next_order p.ranking) (frames_of p.held.frames) p.serves (pages p.held.set)
policy_model (Dpmin p) = dpmin_model p
policy_model (Fifo p) = fifo_model p

abbrev pub policy_room : PolicyPager → ℕ
policy_room (Lru p) = frames_of p.held.frames
policy_room (Min p) = frames_of p.held.frames
policy_room (Dpmin p) = dpmin_room p
policy_room (Fifo p) = fifo_room p

-- so each keeps the laws of a pager
pub policy_keeps : (p : PolicyPager) → Keeps (policy_room p) (policy_model p)
policy_keeps (Lru p) = ranked_law (last_order p.ranking) p.serves p.held
policy_keeps (Min p) = ranked_law (next_order p.ranking) p.serves p.held
policy_keeps (Dpmin p) = dpmin_law p
policy_keeps (Fifo p) = fifo_law p
