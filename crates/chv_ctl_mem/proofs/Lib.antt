pub mod CallSteps
pub mod ChangeLaws
pub mod ControlPlans
pub mod OpenBlocks
pub mod PlanSteps
pub mod RoomSteps
pub mod ZoneSteps
