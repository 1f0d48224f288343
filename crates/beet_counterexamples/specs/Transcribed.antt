-- Views that a transcript tells.
use Rattle.beet_view.specs.Transcripts.{AreNumbers, FitsFile}
use Rattle.beet_view.specs.Views.{IsView, Viewed}

-- the view is one of a server, and within the limits of a transcript, as each that is read from a transcript is
pub record CanStand (view : Viewed) : Type 0 where
  pub is_view : IsView view
  pub fits : FitsFile view
  pub numbers : AreNumbers view
