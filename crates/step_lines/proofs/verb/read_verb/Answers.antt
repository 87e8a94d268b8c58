use Rattle.std.proofs.Common.{arith, codes, ap, sym}
use Rattle.std.proofs.lemmas.Slice.Eq.{text_from_reads}
use Rattle.step_lines.specs.Steps.{verb_in}
use Rattle.step_lines.proofs.verb.read_verb.Goals as goal

pub returns-in-limit : goal.returns-in-limit
returns-in-limit c =
    ap verb_in (sym (text_from_reads c.args.word.now (codes "limit") (omega arith)
    (omega arith, (omega arith, (omega arith, (omega arith, (omega arith, tt)))))))

pub returns-in-take : goal.returns-in-take
returns-in-take c =
    ap verb_in (sym (text_from_reads c.args.word.now (codes "take") (omega arith)
    (omega arith, (omega arith, (omega arith, (omega arith, tt))))))

pub returns-in-publish : goal.returns-in-publish
returns-in-publish c =
    ap verb_in (sym (text_from_reads c.args.word.now (codes "publish") (omega arith)
    (omega arith, (omega arith, (omega arith, (omega arith, (omega arith, (omega arith, (omega arith, tt)))))))))

pub returns-in-enter : goal.returns-in-enter
returns-in-enter c =
    ap verb_in (sym (text_from_reads c.args.word.now (codes "enter") (omega arith)
    (omega arith, (omega arith, (omega arith, (omega arith, (omega arith, tt)))))))

pub returns-in-read : goal.returns-in-read
returns-in-read c =
    ap verb_in (sym (text_from_reads c.args.word.now (codes "read") (omega arith)
    (omega arith, (omega arith, (omega arith, (omega arith, tt))))))

pub returns-in-learn : goal.returns-in-learn
returns-in-learn c =
    ap verb_in (sym (text_from_reads c.args.word.now (codes "learn") (omega arith)
    (omega arith, (omega arith, (omega arith, (omega arith, (omega arith, tt)))))))

pub returns-in-leave : goal.returns-in-leave
returns-in-leave c =
    ap verb_in (sym (text_from_reads c.args.word.now (codes "leave") (omega arith)
    (omega arith, (omega arith, (omega arith, (omega arith, (omega arith, tt)))))))
