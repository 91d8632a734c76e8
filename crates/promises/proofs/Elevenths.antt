-- By citing what is proved of reading by every rule; the edges and the forms of a weight by computing. Assumes nothing.
use mathlib.Core.Path.{refl, sym, ap, ◌∙◌}
use Rattle.card.specs.Weight.{Rule}
use Rattle.reading.specs.Reading.{Outcome}
use Rattle.grammar.proofs.Theorems.{accepted, read_valid, refusal_1, refusal_2, refusal_3, refusal_4, refusal_5, refusal_6, refusal_7, refusal_17}
use Rattle.reading.proofs.Numbers.{read_number}
use Rattle.outline.specs.ReadingOf.{outline_of, memory_of}
use Rattle.outline.specs.ReadingOf.{Outline}
use Rattle.rereading.proofs.RoundTrip.{read_again}
use Rattle.converting.proofs.Stricter.{stricter}
use Rattle.edges.proofs.Edges.{unit_edges}
use Rattle.card_promises.proofs.CardMarks.{taken_marks}
use Rattle.card_promises.proofs.Numbers.{number_some}
use Rattle.promises.specs.Elevenths.{Elevenths, ByRule}

pub elevenths : Elevenths
elevenths = record {
  eleven_times = refl;
  edges = unit_edges;
  wholes = λ decimals v. refl;
  ratios = λ decimals a b. refl;
  by_rule = λ decimals v n f. refl;
  today = refl;
  stricter = stricter;
}

pub by_rule : (decimals : Rule) → ByRule decimals
by_rule decimals = record {
  accepted = accepted decimals;
  valid = read_valid decimals;
  words = taken_marks decimals;
  row_1 = refusal_1 decimals;
  row_2 = refusal_2 decimals;
  row_3 = refusal_3 decimals;
  row_4 = refusal_4 decimals;
  row_5 = refusal_5 decimals;
  row_6 = refusal_6 decimals;
  row_7 = refusal_7 decimals;
  row_17 = refusal_17 decimals;
  no_other = λ s e. (number_some decimals s e, read_number decimals s e);
  again = read_again decimals;
  read_under_holds = λ card x y m n h k. (h.outline ∙ sym k.outline, h.memory ∙ sym k.memory);
  outline = λ card x m h. h.outline;
  holds = λ card x m h. (
    (λ c e. (h.outline ∙ ap outline_of e, h.memory ∙ ap memory_of e)),
    (λ number place e. (h.outline ∙ ap outline_of e, h.memory ∙ ap memory_of e)),
  );
}
