-- Each by citing the proof of its function. Assumes nothing.
use Rattle.reader.proofs.read.Met.{met as read_met}
use Rattle.reader.proofs.read_into.Met.{met as read_into_met}
use Rattle.reader.proofs.read_under.Met.{met as read_under_met}
use Rattle.printing.proofs.write.Met.{met as write_met}
use Rattle.printing.proofs.reduce.Met.{met as reduce_met}
use Rattle.panel.proofs.panel.Met.{met as panel_met}
use Rattle.panel.proofs.program.respond.Met.{met as respond_met}
use Rattle.entries.proofs.ask.Met.{met as ask_met}
use Rattle.boxes.proofs.judge_deck.Met.{met as judge_deck_met}
use Rattle.boxes.proofs.locate.Met.{met as locate_met}
use Rattle.boxes.proofs.locate_with.Met.{met as locate_with_met}
use Rattle.finding.proofs.find.Met.{met as find_met}
use Rattle.finding.proofs.find_with.Met.{met as find_with_met}
use Rattle.deck_writer.proofs.write_deck.Met.{met as write_deck_met}
use Rattle.tablet.proofs.open_panel_judge.Met.{met as judge_for_c_met}
use Rattle.tablet.proofs.open_panel_write.Met.{met as write_for_c_met}
use Rattle.tablet.proofs.open_panel_reduce.Met.{met as reduce_for_c_met}
use Rattle.tablet.proofs.open_panel_show.Met.{met as show_for_c_met}
use Rattle.tablet.proofs.open_panel_ask.Met.{met as ask_for_c_met}
use Rattle.keeps.specs.Keeps.{Keeps}
use Rattle.tablet.proofs.open_panel_box_judge.Met.{met as box_judge_for_c_met}
use Rattle.tablet.proofs.open_panel_box_find.Met.{met as box_find_for_c_met}
use Rattle.tablet.proofs.open_panel_box_find_with.Met.{met as box_find_with_for_c_met}
use Rattle.tablet.proofs.open_panel_box_write.Met.{met as box_write_for_c_met}
use Rattle.tablet.proofs.open_panel_mend.Met.{met as mend_for_c_met}
use Rattle.mend.proofs.mend.Met.{met as mend_met}
use Rattle.convert.proofs.convert.Met.{met as convert_met}
use Rattle.tablet.proofs.open_panel_convert.Met.{met as convert_for_c_met}
use Rattle.tidy.proofs.tidy.Met.{met as tidy_met}
use Rattle.add.proofs.add.Met.{met as add_met}
use Rattle.tablet.proofs.open_panel_tidy.Met.{met as tidy_for_c_met}
use Rattle.tablet.proofs.open_panel_add.Met.{met as add_for_c_met}
use Rattle.entries.proofs.watch.Met.{met as watch_met}
use Rattle.tablet.proofs.open_panel_watch.Met.{met as watch_for_c_met}
use Rattle.entries.proofs.first_move.Met.{met as first_move_met}
use Rattle.tablet.proofs.open_panel_first_move.Met.{met as first_move_for_c_met}
use Rattle.odds.proofs.odds.Met.{met as odds_met}
use Rattle.tablet.proofs.open_panel_odds.Met.{met as odds_for_c_met}

pub keeps : Keeps
keeps = record {
  read = λ M. read_met;
  read_into = λ M. read_into_met;
  read_under_holds = λ M. read_under_met;
  write = λ M. write_met;
  reduce = λ M. reduce_met;
  panel = λ M. panel_met;
  respond = λ M. respond_met;
  ask = λ M. ask_met;
  judge_deck = λ M. judge_deck_met;
  locate = λ M. locate_met;
  locate_with = λ M. locate_with_met;
  find = λ M. find_met;
  find_with_holds = λ M. find_with_met;
  write_deck = λ M. write_deck_met;
  mend = λ M. mend_met;
  convert = λ M. convert_met;
  tidy = λ M. tidy_met;
  add = λ M. add_met;
  judge_for_c = λ M. judge_for_c_met;
  write_for_c = λ M. write_for_c_met;
  reduce_for_c = λ M. reduce_for_c_met;
  show_for_c = λ M. show_for_c_met;
  ask_for_c = λ M. ask_for_c_met;
  box_judge_for_c = λ M. box_judge_for_c_met;
  box_find_for_c = λ M. box_find_for_c_met;
  box_find_with_for_c = λ M. box_find_with_for_c_met;
  box_write_for_c = λ M. box_write_for_c_met;
  mend_for_c = λ M. mend_for_c_met;
  convert_for_c = λ M. convert_for_c_met;
  tidy_for_c = λ M. tidy_for_c_met;
  add_for_c = λ M. add_for_c_met;
  watch = λ M. watch_met;
  watch_for_c = λ M. watch_for_c_met;
  first_move = λ M. first_move_met;
  first_move_for_c = λ M. first_move_for_c_met;
  odds = λ M. odds_met;
  odds_for_c = λ M. odds_for_c_met;
}
