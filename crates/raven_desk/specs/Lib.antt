pub mod AsksView
pub mod CourseView
pub mod SettledView
pub mod ReceiptView
pub mod Desks
pub mod Openings
