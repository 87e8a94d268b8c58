use Rattle.std.proofs.lemmas.Bool.Decides.{Decides-at}
use Rattle.jaeger_model.specs.Sameness.{same_process}
use Rattle.jaeger_model.specs.SameLaws.{same_process-decides}
use Rattle.jaeger_model.proofs.shared_process.SharedProcess.is_same.Goals as goal

pub returns : goal.returns
returns c = Decides-at c.eq.result (same_process c.args.self.now c.args.other.now) c.eq.ensures (same_process-decides c.args.self.now c.args.other.now)
