-- The code keeps its contracts ("How tight the promises are"): of each function that is called from outside, the kit's statement that its
-- routine meets what its source declares, for every memory that it may be called in. What the contracts say (`Reads`, `ReadsUnder`, `Entered`, `Printed`,
-- `Told`, `Found`, `PartTold`, `Mends`, `RoomsTold`, `Tidied`, `DeckTold`) is in `Entries.antt`, `ForC.antt` and `Spectator.antt` of `entry_promises`, and in `Questions.antt`,
-- `Decks.antt`, `DeckWriting.antt`, `Mendings.antt`, `Conversions.antt`, `Tidyings.antt`, `Elevenths.antt` and `FirstMoves.antt` of `promises`. Assumes nothing.
use Rattle.reader.proofs.read.Statement.{statement as read_keeps}
use Rattle.reader.proofs.read_into.Statement.{statement as read_into_keeps}
use Rattle.reader.proofs.read_under.Statement.{statement as read_under_keeps}
use Rattle.printing.proofs.write.Statement.{statement as write_keeps}
use Rattle.printing.proofs.reduce.Statement.{statement as reduce_keeps}
use Rattle.panel.proofs.panel.Statement.{statement as panel_keeps}
use Rattle.panel.proofs.program.respond.Statement.{statement as respond_keeps}
use Rattle.entries.proofs.ask.Statement.{statement as ask_keeps}
use Rattle.boxes.proofs.judge_deck.Statement.{statement as judge_deck_keeps}
use Rattle.boxes.proofs.locate.Statement.{statement as locate_keeps}
use Rattle.boxes.proofs.locate_with.Statement.{statement as locate_with_keeps}
use Rattle.finding.proofs.find.Statement.{statement as find_keeps}
use Rattle.finding.proofs.find_with.Statement.{statement as find_with_keeps}
use Rattle.deck_writer.proofs.write_deck.Statement.{statement as write_deck_keeps}
use Rattle.mend.proofs.mend.Statement.{statement as mend_keeps}
use Rattle.convert.proofs.convert.Statement.{statement as convert_keeps}
use Rattle.tidy.proofs.tidy.Statement.{statement as tidy_keeps}
use Rattle.add.proofs.add.Statement.{statement as add_keeps}
use Rattle.entries.proofs.watch.Statement.{statement as watch_keeps}
use Rattle.tablet.proofs.open_panel_judge.Statement.{statement as judge_for_ckeeps}
use Rattle.tablet.proofs.open_panel_write.Statement.{statement as write_for_ckeeps}
use Rattle.tablet.proofs.open_panel_reduce.Statement.{statement as reduce_for_ckeeps}
use Rattle.tablet.proofs.open_panel_show.Statement.{statement as show_for_ckeeps}
use Rattle.tablet.proofs.open_panel_ask.Statement.{statement as ask_for_ckeeps}
use Rattle.tablet.proofs.open_panel_box_judge.Statement.{statement as box_judge_for_ckeeps}
use Rattle.tablet.proofs.open_panel_box_find.Statement.{statement as box_find_for_ckeeps}
use Rattle.tablet.proofs.open_panel_box_find_with.Statement.{statement as box_find_with_for_ckeeps}
use Rattle.tablet.proofs.open_panel_box_write.Statement.{statement as box_write_for_ckeeps}
use Rattle.tablet.proofs.open_panel_mend.Statement.{statement as mend_for_ckeeps}
use Rattle.tablet.proofs.open_panel_convert.Statement.{statement as convert_for_ckeeps}
use Rattle.tablet.proofs.open_panel_tidy.Statement.{statement as tidy_for_ckeeps}
use Rattle.tablet.proofs.open_panel_add.Statement.{statement as add_for_ckeeps}
use Rattle.tablet.proofs.open_panel_watch.Statement.{statement as watch_for_ckeeps}
use Rattle.entries.proofs.first_move.Statement.{statement as first_move_keeps}
use Rattle.tablet.proofs.open_panel_first_move.Statement.{statement as first_move_for_ckeeps}
use Rattle.odds.proofs.odds.Statement.{statement as odds_keeps}
use Rattle.tablet.proofs.open_panel_odds.Statement.{statement as odds_for_ckeeps}

pub record Keeps : Type 2 where
  pub read : (M : Type 1) → read_keeps M
  pub read_into : (M : Type 1) → read_into_keeps M
  pub read_under_holds : (M : Type 1) → read_under_keeps M
  pub write : (M : Type 1) → write_keeps M
  pub reduce : (M : Type 1) → reduce_keeps M
  pub panel : (M : Type 1) → panel_keeps M
  pub respond : (M : Type 1) → respond_keeps M
  pub ask : (M : Type 1) → ask_keeps M
  -- boxes
  pub judge_deck : (M : Type 1) → judge_deck_keeps M
  pub locate : (M : Type 1) → locate_keeps M
  pub locate_with : (M : Type 1) → locate_with_keeps M
  pub find : (M : Type 1) → find_keeps M
  pub find_with_holds : (M : Type 1) → find_with_keeps M
  pub write_deck : (M : Type 1) → write_deck_keeps M
  pub mend : (M : Type 1) → mend_keeps M
  pub convert : (M : Type 1) → convert_keeps M
  pub tidy : (M : Type 1) → tidy_keeps M
  pub add : (M : Type 1) → add_keeps M
  -- classes
  pub watch : (M : Type 1) → watch_keeps M
  -- the names for C
  pub judge_for_c : (M : Type 1) → judge_for_ckeeps M
  pub write_for_c : (M : Type 1) → write_for_ckeeps M
  pub reduce_for_c : (M : Type 1) → reduce_for_ckeeps M
  pub show_for_c : (M : Type 1) → show_for_ckeeps M
  pub ask_for_c : (M : Type 1) → ask_for_ckeeps M
  pub box_judge_for_c : (M : Type 1) → box_judge_for_ckeeps M
  pub box_find_for_c : (M : Type 1) → box_find_for_ckeeps M
  pub box_find_with_for_c : (M : Type 1) → box_find_with_for_ckeeps M
  pub box_write_for_c : (M : Type 1) → box_write_for_ckeeps M
  pub mend_for_c : (M : Type 1) → mend_for_ckeeps M
  pub convert_for_c : (M : Type 1) → convert_for_ckeeps M
  pub tidy_for_c : (M : Type 1) → tidy_for_ckeeps M
  pub add_for_c : (M : Type 1) → add_for_ckeeps M
  pub watch_for_c : (M : Type 1) → watch_for_ckeeps M
  -- who may move
  pub first_move : (M : Type 1) → first_move_keeps M
  pub first_move_for_c : (M : Type 1) → first_move_for_ckeeps M
  -- odds
  pub odds : (M : Type 1) → odds_keeps M
  pub odds_for_c : (M : Type 1) → odds_for_ckeeps M
