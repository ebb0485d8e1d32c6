pub mod AccessLaws
pub mod GoingOn
pub mod LentLaws
pub mod LentPins
pub mod MadeLaws
pub mod OwnPins
pub mod ZoneLaws
