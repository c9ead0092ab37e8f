use Rattle.std.proofs.Common.{length, Ok, sym, ap, ◌∙◌, arith}
use Rattle.theory.specs.declared.words.Facts.{Facts}
use Rattle.terms.specs.Memory.{cell}
use Rattle.terms.proofs.Interned.{put-held, put_full, put_high, put_long, put_new}
use Rattle.terms.proofs.store.Store.intern.Goals as goal

pub returns-in-Some-clause-answer : goal.returns-in-Some-clause-answer
returns-in-Some-clause-answer c = put-held c.args.self.now (cell c.args.own.node c.args.own.parts.now) c.requires.proper c.in-Some.term c.in-Some.ensures.place

pub returns-then-not-has_room-clause-answer : goal.returns-then-not-has_room-clause-answer
returns-then-not-has_room-clause-answer c = put_full c.args.self.now (cell c.args.own.node c.args.own.parts.now) c.requires.proper c.in_default.ensures.place (sym c.if-not-has_room.ensures)

pub returns-then-facts-gt-HIGHEST-clause-answer : goal.returns-then-facts-gt-HIGHEST-clause-answer
returns-then-facts-gt-HIGHEST-clause-answer c =
    put_high c.args.self.now (cell c.args.own.node c.args.own.parts.now) c.requires.proper c.in_default.ensures.place (sym c.if-not-has_room.ensures)
    (omega (arith, ap (λ (f : Facts). f.height) c.requires.facts, c.if-facts-gt-HIGHEST.true))

pub returns-then-own-gt-LONGEST-clause-answer : goal.returns-then-own-gt-LONGEST-clause-answer
returns-then-own-gt-LONGEST-clause-answer c =
    put_long c.args.self.now (cell c.args.own.node c.args.own.parts.now) c.requires.proper c.in_default.ensures.place (sym c.if-not-has_room.ensures)
    (omega (arith, ap (λ (f : Facts). f.height) c.requires.facts, c.if-facts-gt-HIGHEST.false)) c.if-own-gt-LONGEST.true

pub returns-clause-answer : goal.returns-clause-answer
returns-clause-answer c =
    ap (λ n. (Ok n, c.push.new.self)) c.push.ensures.value
    ∙ ap (λ m. (Ok (length c.args.self.now.trees), m)) c.push.ensures.after
    ∙ put_new c.args.self.now (cell c.args.own.node c.args.own.parts.now) c.requires.proper c.in_default.ensures.place (sym c.if-not-has_room.ensures)
    (omega (arith, ap (λ (f : Facts). f.height) c.requires.facts, c.if-facts-gt-HIGHEST.false)) c.if-own-gt-LONGEST.false
