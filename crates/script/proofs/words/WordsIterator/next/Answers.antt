use Rattle.std.proofs.Common.{length, rules, arith, ap}
use Rattle.std.proofs.lemmas.List.{take_rest}
use Rattle.script.proofs.Cuts.{no_words, next_word}
use Rattle.script.proofs.words.WordsIterator.next.Goals as goal

pub returns-then-is_empty : goal.returns-then-is_empty
returns-then-is_empty c =
    let text = c.args.self.now.0.now in
    let none = no_words text _ c.until.result (take_rest text c.until.result) c.until.ensures.others c.if-is_empty.ensures in
    search rules

pub returns : goal.returns
returns c =
    let text = c.args.self.now.0.now in
    let cut = next_word text _ _ _ c.until.result c.until-2.result (take_rest text c.until.result) c.until.ensures.others
    c.until.ensures.there
    c.if-is_empty.ensures c.until-2.ensures.within c.until-2.ensures.others c.until-2.ensures.there c.split_at.ensures.front
    c.split_at.ensures.back in
    record { steps = cut; goes = record { on = λ _. (tt, tt, omega (arith, ap length cut)); keeps = tt; rests = λ _. tt } }
