-- `planned` meets its contract: each refusal is the append's, and what is left is a plan. Assumes nothing.
use Rattle.std.proofs.Common.{sym, ◌∙◌, arith, take}
use Rattle.rules.specs.Jobs.{old_count}
use Rattle.rules.proofs.Laws.Basics.{handed_on}
use Rattle.encode_append.proofs.Deciding.{Rooted, rooted_at, unrooted, beyond, Headed, headed, unheaded, append_from_lem, head_there, head_short, plan_not, plan_joins}
use Rattle.encode_append.proofs.planned.Goals as goal
use Rattle.encode_append.proofs.planned.Goals.{In_ok-check_root, In_ok-heads}

-- what is known where the root is a vector, and where the heads are known
rooted : (c : In_ok-check_root) → Rooted c.args.table.now
rooted c = rooted_at _ (sym c.check_root.ensures ∙ c.in_ok-check_root.was)

heads : (c : In_ok-heads) → Headed c.args.k (old_count (take c.args.used c.args.buf.now)) c.in_ok-heads.heads
heads c = headed _ _ _ (sym c.extract_length_data.ensures ∙ c.in_ok-heads.was)

pub returns-in_err-check_root : goal.returns-in_err-check_root
returns-in_err-check_root c = rw (handed_on _ _ c.from_residual.ensures.1) (unrooted _ _ _ _ _ _ (sym c.check_root.ensures ∙ c.in_err-check_root.was))

pub returns-then-buf-used : goal.returns-then-buf-used
returns-then-buf-used c = rw c.refuse.ensures (beyond _ _ _ _ _ (rooted (goal.at.returns-then-buf-used c).In_ok-check_root) c.if-buf-used.true)

pub returns-in_err-heads : goal.returns-in_err-heads
returns-in_err-heads c =
    rw (handed_on _ _ c.from_residual-in_err-heads.ensures.1)
    (append_from_lem _ (rooted (goal.at.returns-in_err-heads c).In_ok-check_root) _ _ _ _ c.if-buf-used.false ∙ unheaded _ _ _ _ _ _ _ (sym c.extract_length_data.ensures ∙ c.in_err-heads.was))

pub overflow_sub-end : goal.overflow_sub-end
overflow_sub-end c = head_there _ (λ i. (c.type_inv.buf i).fits) c.if-buf-used.false (heads (goal.at.overflow_sub-end c).In_ok-heads)

pub overflow_add-end : goal.overflow_add-end
overflow_add-end c = omega (arith, head_short _ (λ i. (c.type_inv.buf i).fits) c.if-buf-used.false (heads (goal.at.overflow_add-end c).In_ok-heads), c.well_formed)

pub returns-in_err-items_behind : goal.returns-in_err-items_behind
returns-in_err-items_behind c =
    let at = goal.at.returns-in_err-items_behind c in
    rw (handed_on _ _ c.from_residual-in_err-items_behind.ensures.1)
    (plan_not _ _ (λ i. (c.type_inv.buf i).fits) (λ i. (c.type_inv.cells i).fits) (omega (arith, c.well_formed)) (rooted at.In_ok-check_root) c.if-buf-used.false (heads at.In_ok-heads) c.items_behind.ensures c.in_err-items_behind.was)

pub returns : goal.returns
returns c =
    let at = goal.at.returns c in
    plan_joins _ _ (λ i. (c.type_inv.buf i).fits) (λ i. (c.type_inv.cells i).fits) (omega (arith, c.well_formed)) (rooted at.In_ok-check_root) c.if-buf-used.false (heads at.In_ok-heads) c.items_behind.ensures c.in_ok-items_behind.was
