-- What `weigh` says of a node is what `weighing` says: the same test and the same footprint. Assumes nothing.
use Rattle.std.proofs.Common.{true, ◌≡◌, sym, ap, ◌∙◌, ◌<◌, arith, get_or}
use Rattle.rules.specs.Totals.{foot}
use Rattle.rules.specs.Table.{node_at, ty_at, allowed}
use Rattle.rules.proofs.Laws.Table.{head_fine}
use Rattle.node.specs.Laws.{node_in_lem}
use Rattle.table.specs.Nodes.{foot_over}
use Rattle.table.specs.Filling.{weighing_none, weighing_all, weighing_wrong, weighed, weighing_large, weighing_more}
use Rattle.table.proofs.weigh.Goals as goal
use Rattle.table.proofs.weigh.Goals.{In-loop-i, After-allowed_at, After-footprint_of-foot}

-- node i is one of 64
room : (c : In-loop-i) → c.loop-i.i < 64
room c = omega (arith, c.loop-i-test.true, (head_fine _ c.requires).few)

-- `node` is the table's node i, and what the test on it says
told : (c : After-allowed_at)
    → (c.node_at-node.result ≡ node_at c.args.table.now c.loop-i.i) × (c.allowed_at.result ≡ allowed c.loop-i.i (node_at c.args.table.now c.loop-i.i))
told c =
    let node = c.node_at-node.ensures ∙ node_in_lem _ (head_fine _ c.requires).exact _ c.loop-i-test.true in
    (node, c.allowed_at.ensures ∙ ap (allowed _) node)

-- `foot` is its footprint, where it is allowed
weight : (c : After-footprint_of-foot) → c.node_at-node.result ≡ node_at c.args.table.now c.loop-i.i → allowed c.loop-i.i (node_at c.args.table.now c.loop-i.i) ≡ true
    → c.footprint_of-foot.result ≡ foot (ty_at c.args.table.now c.loop-i.i)
weight c node good =
    c.footprint_of-foot.ensures ∙ ap (foot_over (λ j. get_or c.loop-i.feet j 0)) node ∙ weighed _ c.requires _ _ c.loop-i.invariant c.loop-i-test.true good

pub bounds-table-5 : goal.bounds-table-5
bounds-table-5 c = omega (arith, (head_fine _ c.requires).exact)

pub loop-i-init : goal.loop-i-init
loop-i-init c = weighing_none _

pub returns-then-not-allowed_at : goal.returns-then-not-allowed_at
returns-then-not-allowed_at c =
    let said = (told (goal.at.returns-then-not-allowed_at c).After-allowed_at).1 in
    c.refuse.ensures
    ∙ sym (weighing_wrong _ c.requires _ _ c.loop-i.invariant c.loop-i-test.true (sym said ∙ c.if-not-allowed_at.true))

pub returns-then-foot-gt-MAX_FOOTPRINT : goal.returns-then-foot-gt-MAX_FOOTPRINT
returns-then-foot-gt-MAX_FOOTPRINT c =
    let at = goal.at.returns-then-foot-gt-MAX_FOOTPRINT c in
    let said = told at.After-allowed_at in
    let good = sym said.1 ∙ c.if-not-allowed_at.false in
    c.refuse-then-foot-gt-MAX_FOOTPRINT.ensures
    ∙ sym (weighing_large _ c.requires _ _ c.loop-i.invariant c.loop-i-test.true good _ (weight at.After-footprint_of-foot said.0 good) c.if-foot-gt-MAX_FOOTPRINT.true)

pub bounds-feet-i : goal.bounds-feet-i
bounds-feet-i c = room (goal.at.bounds-feet-i c).In-loop-i

pub loop-i-preserved : goal.loop-i-preserved
loop-i-preserved c =
    let at = goal.at.loop-i-preserved c in
    let said = told at.After-allowed_at in
    let good = sym said.1 ∙ c.if-not-allowed_at.false in
    weighing_more _ c.requires _ _ c.loop-i.invariant c.loop-i-test.true good _ (weight at.After-footprint_of-foot said.0 good) c.if-foot-gt-MAX_FOOTPRINT.false

pub returns : goal.returns
returns c = sym (weighing_all _ c.requires _ _ c.loop-i.invariant c.loop-i-test.false)
