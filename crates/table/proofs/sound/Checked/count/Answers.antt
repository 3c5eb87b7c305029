use Rattle.std.proofs.Common.{arith}
use Rattle.rules.proofs.Laws.Table.{check_good}
use Rattle.table.proofs.sound.Checked.count.Goals as goal

pub bounds-self-5 : goal.bounds-self-5
bounds-self-5 c = omega (arith, (check_good _ c.args.self.now.fine).exact)

pub returns-clause-some : goal.returns-clause-some
returns-clause-some c = (check_good _ c.args.self.now.fine).some

pub returns-clause-few : goal.returns-clause-few
returns-clause-few c = (check_good _ c.args.self.now.fine).few
