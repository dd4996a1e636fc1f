use Rattle.std.proofs.Common.{◌≡◌, ℕ, List, length, codes, ap, sym, arith, rules}
use Rattle.std.proofs.lemmas.Slice.Eq.{HasBytesAt, text_from_reads}
use Rattle.boxes.specs.Boxes.{rule_of}
use Rattle.boxes.proofs.Rule.named.Goals as goal

-- a word whose bytes were read one by one names what the text of these bytes names
reads : (word text : List ℕ) → length word ≡ length text → HasBytesAt word 0 text → rule_of text ≡ rule_of word
reads word text same bytes = sym (ap rule_of (text_from_reads word text same bytes))

pub returns-in-ceiling : goal.returns-in-ceiling
returns-in-ceiling c = reads c.args.word.now (codes "ceiling") (omega arith) (search rules)

pub returns-in-whole : goal.returns-in-whole
returns-in-whole c = reads c.args.word.now (codes "whole") (omega arith) (search rules)
